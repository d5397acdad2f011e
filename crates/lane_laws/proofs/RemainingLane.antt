-- What remains on a lane falls by each step of an end that takes nothing.
use Rattle.std.proofs.Common.{◌≡◌, ◌≢◌, ℕ, ◌+◌, ◌≤◌, Bool, Option, List, length, refl, sym, subst, arith, length-append}
use Rattle.ldc_link.specs.declared.phase.Role.TheVariants.{Initiator, Responder}
use Rattle.ldc_queue.specs.declared.end.ChannelState.{ChannelState}
use Rattle.ldc_queue.specs.declared.end.ChannelState.TheVariants.{Up}
use Rattle.ldc_queue.specs.declared.end.End.TheVariants.{A, B}
use Rattle.ldc_queue.specs.Transcript.{Utterance}
use Rattle.ldc_queue.specs.Wire.{Wire, configured, peer_behind, put_for, queue_behind}
use Rattle.lane_models.specs.WireEvent.{Joined, Sent, WireEvent}
use Rattle.lane_models.specs.WireLog.{lossy_behind, wire_moved}
use Rattle.lane_models.specs.ClientRule as client_rules
use Rattle.lane_models.specs.ClientState.{ClientState, joined_client}
use Rattle.lane_models.specs.DiskEvent.{Desc, DiskEvent, Done, Finished, Misplaced, Moved, OnWire, Published, Stored, Worked}
use Rattle.lane_models.specs.LaneState.{LaneState}
use Rattle.lane_models.specs.LaneStep.{ClientWorks, LaneStep, ServerWorks, WorkStep, near_worked}
use Rattle.lane_models.specs.ServerRule as server_rules
use Rattle.lane_models.specs.ServerState.{ServerSession, ServerState, Work, joined_server}
use Rattle.lane_models.specs.Standing.{EndStands}
use Rattle.lane_laws.proofs.ClientHolding.{holds_up}
use Rattle.lane_laws.proofs.LaneCounting.{Knows}
use Rattle.lane_laws.proofs.RemainingClientPuts.{ClientLowers, completes_falls, falls_lower, publishes_falls, sends_falls}
use Rattle.lane_laws.proofs.RemainingServerPuts.{ServerLowers}
use Rattle.lane_laws.proofs.RemainingServerPuts as server
use Rattle.lane_laws.proofs.RemainingServerSteps.{fetches_lowers, finishes_lowers, moves_lowers, stores_lowers}
use Rattle.lane_laws.proofs.Ruling.{client_may, server_may}
use Rattle.lane_laws.proofs.ServerSpeaking.{server_holds_up}
use Rattle.lane_laws.specs.Agreement.{ServerAgrees}
use Rattle.lane_laws.specs.ChannelEnds.{client_core, server_core}
use Rattle.lane_laws.specs.DiskLog.{DiskLog}
use Rattle.lane_laws.specs.Remaining.{life, remaining, second_life, server_remaining, server_packets}
use Rattle.lane_laws.specs.RemainingSteps.{CountsFit, IsPutOrJoined, IsWork, TakesNothing}
use Rattle.lane_laws.specs.RuleFacts.{ClientMay, ServerMay}
use Rattle.lane_laws.specs.WorkLog.{ServerCounts}
use Rattle.lane_laws.proofs.LaneViews.{at_client, at_server}

-- by its parts
abbrev pub left : Wire → Bool → ClientState → ServerState → ℕ
left w lossy c v = life w c v + second_life lossy (length c.pending)

-- ONE END goes on
client_goes : (w : Wire) (lossy : Bool) (c t : ClientState) (v : ServerState) → w.end_a ≡ Up → ClientLowers 1 c t → left w lossy t v + 1 ≤ left w lossy c v
client_goes w lossy c t v up lower = grind arith

client_puts_one : (w : Wire) (lossy : Bool) (c t : ClientState) (v : ServerState) (packet : List ℕ) → w.end_a ≡ Up → ClientLowers 2 c t
    → left (put_for B packet w) lossy t v + 1 ≤ left w lossy c v
client_puts_one w lossy c t v packet up lower = grind (arith, length-append)

server_goes : (w : Wire) (lossy : Bool) (c : ClientState) (v u : ServerState) → w.end_b ≡ Up → ServerLowers 1 v u → left w lossy c u + 1 ≤ left w lossy c v
server_goes w lossy c v u up lower = grind arith

server_puts_one : (w : Wire) (lossy : Bool) (c : ClientState) (v u : ServerState) (packet : List ℕ) → w.end_b ≡ Up → ServerLowers 2 v u
    → left (put_for A packet w) lossy c u + 1 ≤ left w lossy c v
server_puts_one w lossy c v u packet up lower = grind (arith, length-append)

-- AN END JOINS: one that isn't up counts as one that begins
pub begun_answers : (v : ServerState) (turns : List Utterance) → EndStands Responder (server_core v) turns → server_packets (joined_server v) ≡ 8
begun_answers v turns stands = search

pub begun_server : (v : ServerState) (turns : List Utterance) → EndStands Responder (server_core v) turns → server_remaining Up (joined_server v) ≡ 16
begun_server v turns stands = omega (arith, begun_answers v turns stands)

abbrev pub joined_a : ChannelState → Wire → Wire
joined_a x w = record { end_a = Up; end_b = peer_behind x w.end_b; to_a = queue_behind x w.to_a; to_b = queue_behind x w.to_b }

abbrev pub joined_b : ChannelState → Wire → Wire
joined_b x w = record { end_a = peer_behind x w.end_a; end_b = Up; to_a = queue_behind x w.to_a; to_b = queue_behind x w.to_b }

client_joins : (e : ChannelState) (w : Wire) (lossy : Bool) (c : ClientState) (v : ServerState) (turns : List Utterance) → EndStands Initiator (client_core c) turns → w.end_a ≡ e → w.end_a ≢ Up
    → left (joined_a w.end_a w) (lossy_behind w.end_a lossy) (joined_client c) v + 1 ≤ left w lossy c v
client_joins e w lossy c v turns stands is down = grind arith

server_joins : (e : ChannelState) (w : Wire) (lossy : Bool) (c : ClientState) (v : ServerState) (turns : List Utterance) → EndStands Responder (server_core v) turns → w.end_b ≡ e → w.end_b ≢ Up
    → left (joined_b w.end_b w) (lossy_behind w.end_b lossy) c (joined_server v) + 1 ≤ left w lossy c v
server_joins e w lossy c v turns stands is down = grind arith

-- THE EVENTS
counts_fit : (o : Option ServerSession) (work : Option Work) (counts : Option ServerCounts) → ServerAgrees o work counts → CountsFit o
counts_fit o work counts agrees = grind arith

pub falls_is : (s t u : LaneState) → t ≡ u → remaining u + 1 ≤ remaining s → remaining t + 1 ≤ remaining s
falls_is s t u is falls = subst (λ (x : LaneState). remaining x + 1 ≤ remaining s) (sym is) falls

on_wire : (s : LaneState) (l : DiskLog) (event : WireEvent) (t : LaneState) → Knows s l → LaneStep s (OnWire event) t
    → IsPutOrJoined event → remaining t + 1 ≤ remaining s
on_wire s l (Joined A lost) t knows step is =
    let may : ClientMay s.client (at_client s) client_rules.Joins = subst (ClientMay s.client (at_client s)) step.step.0 (client_may s.client (at_client s)) in
    falls_is s t (record s { wire = wire_moved s.wire (Joined A lost); client = t.client; memory = t.memory; near = s.near }) step.is
    (subst (λ (c : ClientState). left (configured A s.wire.wire) (lossy_behind s.wire.wire.end_a s.wire.lossy) c s.server + 1 ≤ remaining s) (sym step.step.2)
    (client_joins s.wire.wire.end_a s.wire.wire s.wire.lossy s.client s.server l.transcript.a knows.rests.client.stands refl may))
on_wire s l (Joined B lost) t knows step is =
    let may : ServerMay s.server (at_server s) server_rules.Joins = subst (ServerMay s.server (at_server s)) step.1.step.1.0 (server_may s.server (at_server s)) in
    falls_is s t (record s { wire = wire_moved s.wire (Joined B lost); server = t.server; memory = t.memory; near = s.near }) step.1.is
    (subst (λ (v : ServerState). left (configured B s.wire.wire) (lossy_behind s.wire.wire.end_b s.wire.lossy) s.client v + 1 ≤ remaining s) (sym step.1.step.1.2)
    (server_joins s.wire.wire.end_b s.wire.wire s.wire.lossy s.client s.server l.transcript.b knows.rests.server.stands refl may))
on_wire s l (Sent A packet opens) t knows step is =
    let sound = knows.all.sound in
    let up = holds_up s.client (at_client s) (client_rules.client_rule s.client (at_client s)) step.step.held (client_may s.client (at_client s)) step.step.holds in
    let falls = sends_falls s.client (at_client s) s.memory packet opens t.client t.memory l.transcript.a step.step sound knows.rests.client.stands in
    falls_is s t (record s { wire = wire_moved s.wire (Sent A packet opens); client = t.client; memory = t.memory; near = s.near }) step.is
    (client_puts_one s.wire.wire s.wire.lossy s.client t.client s.server packet up (falls_lower 1 0 s.client t.client falls))
on_wire s l (Sent B packet opens) t knows step is =
    let sends = step.1.step.1.0 in
    let up = server_holds_up s.server (at_server s) (server_rules.server_rule s.server (at_server s)) sends.held (server_may s.server (at_server s)) sends.holds in
    let falls = server.sends_falls s.server (at_server s) packet opens t.server l.transcript.b sends knows.rests.server.stands in
    falls_is s t (record s { wire = wire_moved s.wire (Sent B packet opens); server = t.server; memory = t.memory; near = s.near }) step.1.is
    (server_puts_one s.wire.wire s.wire.lossy s.client s.server t.server packet up (server.falls_lower 1 s.server t.server falls))
on_wire s l _ t knows step is = absurd is

client_works : (s : LaneState) (event : Worked) (t : LaneState) → s.wire.wire.end_a ≡ Up → ClientLowers 1 s.client t.client → ClientWorks s event t → remaining t + 1 ≤ remaining s
client_works s event t up lower step =
    falls_is s t (record s { client = t.client; memory = t.memory; near = near_worked event s.near }) step.is (client_goes s.wire.wire s.wire.lossy s.client t.client s.server up lower)

server_works : (s : LaneState) (gave : List ℕ) (event : Worked) (t : LaneState) → s.wire.wire.end_b ≡ Up → ServerLowers 1 s.server t.server → ServerWorks s gave event t
    → remaining t + 1 ≤ remaining s
server_works s gave event t up lower step = search (falls_is, server_goes)

fit_of : (s : LaneState) (l : DiskLog) → Knows s l → CountsFit s.server.session
fit_of s l knows = counts_fit s.server.session s.server.work l.work.server knows.counted.server.agrees

works : (s : LaneState) (l : DiskLog) (event : Worked) (t : LaneState) → Knows s l → WorkStep s event t → IsWork event → remaining t + 1 ≤ remaining s
works s l (Published id) t knows step is =
    let may : ClientMay s.client (at_client s) (client_rules.Publishes step.step.session step.step.request) =
    subst (ClientMay s.client (at_client s)) step.step.rule (client_may s.client (at_client s)) in
    client_works s (Published id) t may.0 (falls_lower 0 1 s.client t.client (publishes_falls s.client (at_client s) s.memory id t.client t.memory knows.all.sound step.step)) step
works s l (Done id operation status bytes) t knows step is =
    let may : ClientMay s.client (at_client s) (client_rules.Completes step.step.session) =
    subst (ClientMay s.client (at_client s)) step.step.rule (client_may s.client (at_client s)) in
    client_works s (Done id operation status bytes) t may.0
    (falls_lower 0 1 s.client t.client (completes_falls s.client (at_client s) s.memory id operation status bytes t.client t.memory step.step)) step
works s l (Desc slot bytes) t knows step is =
    let work = step.1.step.1.0 in
    let may : ServerMay s.server (at_server s) (server_rules.Fetches work.session) = subst (ServerMay s.server (at_server s)) work.rule (server_may s.server (at_server s)) in
    server_works s step.0 (Desc slot bytes) t may.0 (fetches_lowers s.server (at_server s) _ slot bytes t.server t.memory (fit_of s l knows) work) step.1
works s l (Moved unit fault) t knows step is =
    let work = step.1.step.1.0 in
    let may : ServerMay s.server (at_server s) (server_rules.Serves work.session work.work) = subst (ServerMay s.server (at_server s)) work.rule (server_may s.server (at_server s)) in
    server_works s step.0 (Moved unit fault) t may.0 (moves_lowers s.server (at_server s) _ unit fault t.server t.memory work) step.1
works s l (Stored operation block count failed) t knows step is =
    let work = step.1.step.1.0 in
    let may : ServerMay s.server (at_server s) (server_rules.Serves work.session work.work) = subst (ServerMay s.server (at_server s)) work.rule (server_may s.server (at_server s)) in
    server_works s step.0 (Stored operation block count failed) t may.0 (stores_lowers s.server (at_server s) operation block count failed step.0 t.server work) step.1
works s l (Finished slot status) t knows step is =
    let work = step.1.step.1.0 in
    let may : ServerMay s.server (at_server s) (server_rules.Serves work.session work.work) = subst (ServerMay s.server (at_server s)) work.rule (server_may s.server (at_server s)) in
    server_works s step.0 (Finished slot status) t may.0 (finishes_lowers s.server (at_server s) _ slot status t.server t.memory (fit_of s l knows) work) step.1
works s l Misplaced t knows step is = absurd step

pub step_falls : (s : LaneState) (l : DiskLog) (event : DiskEvent) (t : LaneState) → Knows s l → LaneStep s event t → TakesNothing event → remaining t + 1 ≤ remaining s
step_falls s l event t knows step is = grind (arith, on_wire, works)
