-- An end that finds no room for its packet leaves what remains: the message that its link holds then was owed before.
use Rattle.std.proofs.Common.{◌≡◌, ◌≤◌, Bool, List, sym, subst, arith}
use Rattle.runs.specs.Lawful.{log_of}
use Rattle.runs.specs.Run.{Run}
use Rattle.ldc_queue.specs.declared.end.ChannelState.TheVariants.{Up}
use Rattle.ldc_queue.specs.declared.end.End.{End}
use Rattle.ldc_queue.specs.declared.end.End.TheVariants.{A, B}
use Rattle.ldc_queue.specs.Wire.{Wire}
use Rattle.lane_models.specs.WireEvent.{Blocked}
use Rattle.lane_laws.specs.DiskLog.{after, nothing_yet}
use Rattle.lane_models.specs.ClientRule.{client_rule}
use Rattle.lane_models.specs.ClientState.{ClientState}
use Rattle.lane_models.specs.DiskEvent.{DiskEvent, OnWire}
use Rattle.lane_models.specs.LaneState.{IsShape, LaneState, Shape, fresh}
use Rattle.lane_models.specs.LaneStep.{LaneStep}
use Rattle.lane_models.specs.ServerRule.{server_rule}
use Rattle.lane_models.specs.ServerState.{ServerState}
use Rattle.lane_laws.proofs.ClientHolding.{holds_up}
use Rattle.lane_laws.proofs.LaneCounting.{Knows, run_knows}
use Rattle.lane_laws.proofs.RemainingClientPuts.{ClientLowers, blocked_falls, falls_lower}
use Rattle.lane_laws.proofs.RemainingLane.{left}
use Rattle.lane_laws.proofs.LaneViews.{at_client, at_server}
use Rattle.lane_laws.proofs.RemainingServerPuts as server
use Rattle.lane_laws.proofs.RemainingServerPuts.{ServerLowers}
use Rattle.lane_laws.proofs.Ruling.{client_may, server_may}
use Rattle.lane_laws.proofs.ServerSpeaking.{server_holds_up}
use Rattle.lane_laws.specs.Remaining.{remaining}

-- THE CLIENT
client_waits : (w : Wire) (lossy : Bool) (c t : ClientState) (v : ServerState) → w.end_a ≡ Up → ClientLowers 0 c t → left w lossy t v ≤ left w lossy c v
client_waits w lossy c t v up lower = grind arith

-- THE SERVER
server_waits : (w : Wire) (lossy : Bool) (c : ClientState) (v u : ServerState) → w.end_b ≡ Up → ServerLowers 0 v u → left w lossy c u ≤ left w lossy c v
server_waits w lossy c v u up lower = grind arith

-- THE LANE
stays_is : (s t u : LaneState) → t ≡ u → remaining u ≤ remaining s → remaining t ≤ remaining s
stays_is s t u is stays = subst (λ (x : LaneState). remaining x ≤ remaining s) (sym is) stays

pub blocked_stays : (shape : Shape) (events : List DiskEvent) (s : LaneState) (e : End) (t : LaneState) → IsShape shape → Run LaneStep (fresh shape) events s → LaneStep s (OnWire (Blocked e)) t
    → remaining t ≤ remaining s
blocked_stays shape events s A t sound run step =
    let l = log_of after (nothing_yet shape) events in
    let knows : Knows s l = run_knows shape events s sound run in
    let up = holds_up s.client (at_client s) (client_rule s.client (at_client s)) t.client (client_may s.client (at_client s)) step.step.0 in
    let falls = blocked_falls s.client (at_client s) t.client l.transcript.a step.step.0 knows.all.sound knows.rests.client.stands in
    stays_is s t (record s { client = t.client; memory = t.memory }) step.is
    (client_waits s.wire.wire s.wire.lossy s.client t.client s.server up (falls_lower 0 0 s.client t.client falls))
blocked_stays shape events s B t sound run step =
    let l = log_of after (nothing_yet shape) events in
    let knows : Knows s l = run_knows shape events s sound run in
    let holds = step.1.step.1.0 in
    let up = server_holds_up s.server (at_server s) (server_rule s.server (at_server s)) t.server (server_may s.server (at_server s)) holds in
    let falls = server.blocked_falls s.server (at_server s) t.server l.transcript.b holds knows.rests.server.stands in
    stays_is s t (record s { server = t.server; memory = t.memory }) step.1.is
    (server_waits s.wire.wire s.wire.lossy s.client s.server t.server up (server.falls_lower 0 s.server t.server falls))
