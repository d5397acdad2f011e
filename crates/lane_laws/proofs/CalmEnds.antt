-- Where nobody forged and the server runs, of two calm steps, one of each end, neither finds no room: both idle, and where nothing was lost
-- both ends have finished.
use Rattle.std.proofs.Common.{◌≡◌, ℕ, ◌+◌, ◌≤◌, ◌⊎◌, inl, inr, Bool, true, false, Some, List, [], ◌∷◌, length, refl, sym, ap, ◌∙◌, subst, arith, length-drop}
use Rattle.std.specs.Prelude.{is_some, ◌&&◌, slice_get}
use Rattle.runs.specs.Lawful.{log_of}
use Rattle.runs.specs.Run.{Run}
use Rattle.ldc_link.specs.declared.phase.LinkPhase.TheVariants as phase
use Rattle.ldc_link.specs.declared.phase.Role.TheVariants.{Initiator, Responder}
use Rattle.ldc_link.specs.LinkState.{is_established}
use Rattle.ldc_queue.specs.declared.end.ChannelState.{ChannelState}
use Rattle.ldc_queue.specs.declared.end.ChannelState.TheVariants.{Up}
use Rattle.ldc_queue.specs.declared.end.End.{End}
use Rattle.ldc_queue.specs.declared.end.End.TheVariants.{A, B}
use Rattle.ldc_queue.specs.OneStream.{IsFront}
use Rattle.ldc_queue.specs.Wire.{peer_of}
use Rattle.lane_models.specs.Sayings.{heard, said}
use Rattle.lane_models.specs.TranscriptLog.{TranscriptLog}
use Rattle.lane_models.specs.WireEvent.{Idle}
use Rattle.lane_laws.specs.DiskLog.{after, nothing_yet}
use Rattle.lane_models.specs.ClientPutting.{client_holds}
use Rattle.lane_models.specs.ClientRule as client_rules
use Rattle.lane_models.specs.ClientState.{ClientState, is_nothing}
use Rattle.lane_models.specs.DiskEvent.{DiskEvent, OnWire}
use Rattle.lane_models.specs.LaneState.{IsShape, LaneState, Shape, fresh}
use Rattle.lane_models.specs.LaneStep.{LaneStep}
use Rattle.lane_models.specs.ServerPutting.{server_holds}
use Rattle.lane_models.specs.ServerRule as server_rules
use Rattle.lane_models.specs.ServerState.{ServerState}
use Rattle.lane_laws.proofs.LaneCores.{transcript_is}
use Rattle.lane_laws.proofs.HeardFront.{heard_messages}
use Rattle.lane_laws.specs.LaneTranscripts.{transcript_behind}
use Rattle.lane_laws.proofs.CalmSteps.{ClientCalm, ServerCalm, client_calm, server_calm, are_still, waits_up_a, waits_up_b}
use Rattle.lane_laws.proofs.IdleLaw.{not_below as no_room}
use Rattle.lane_models.proofs.Apart.{true_is_false}
use Rattle.lane_models.proofs.EndsAtRest.{none_waits}
use Rattle.lane_laws.proofs.IdleRules.{client_idles, server_idles}
use Rattle.lane_models.specs.LinkPlaces.{live_phase, phase_at}
use Rattle.lane_laws.proofs.LaneChannel.{answers_of, asks_of, lane_links, lane_meets}
use Rattle.lane_laws.specs.ChannelEnds.{server_core}
use Rattle.lane_models.proofs.HandshakePlaces.{deal, open_place}
use Rattle.lane_models.proofs.WhoOwes.{never_both}
use Rattle.vio_handshake.proofs.Places.{AllSaid}
use Rattle.lane_models.proofs.ManyWait.{many_wait}
use Rattle.lane_laws.proofs.NeverBoth.{client_owes, holds_urgent, server_owes}
use Rattle.lane_laws.proofs.QuietEnds.{BothRest, Finished, quiet_ends}
use Rattle.lane_laws.proofs.WorkNumbers.{Grounded}
use Rattle.lane_laws.proofs.LaneViews.{at_client, at_server}
use Rattle.lane_laws.proofs.WorkRuns.{run_grounded}
use Rattle.lane_laws.specs.CalmEnds.{AreStill, HaveFinished, IsCalm}
use Rattle.lane_laws.proofs.TickLaw.{nothing_of}

-- A reached lane that nobody forged
pub record Reached (shape : Shape) (events : List DiskEvent) (s : LaneState) : Type 0 where
  pub sound : IsShape shape
  pub run : Run LaneStep (fresh shape) events s
  pub clean : s.wire.forged ≡ false

entries_many : (shape : Shape) (events : List DiskEvent) (s : LaneState) → Reached shape events s → 8 ≤ s.shape.entries
entries_many shape events s at =
    let grounded = run_grounded shape events s at.sound at.run in
    omega (arith, grounded.sound.some_entries, ap (λ (x : Shape). x.entries) grounded.knows.all.stands.shape)

-- a queue without room isn't empty
not_empty : (shape : Shape) (events : List DiskEvent) (s : LaneState) (waiting : List (List ℕ)) → Reached shape events s → s.shape.entries ≤ length waiting + 1 → waiting ≡ [] → ⊥
not_empty shape events s waiting at full none = omega (arith, entries_many shape events s at, full, ap length none)

first_of : (waiting : List (List ℕ)) → 2 ≤ length waiting → (packet : List ℕ) × (slice_get waiting 0 ≡ Some packet)
first_of [] many = absurd (omega (arith, many))
first_of (packet ∷ waiting) many = (packet, refl)

-- NEITHER has room
both_wait : (shape : Shape) (events : List DiskEvent) (s : LaneState) (c : ClientState) (v : ServerState) → Reached shape events s → s.wire.wire.end_a ≡ Up → s.wire.wire.end_b ≡ Up
    → client_holds (client_rules.client_rule s.client (at_client s)) s.client ≡ Some c → (at_client s).room ≡ false
    → server_holds (server_rules.server_rule s.server (at_server s)) s.server ≡ Some v → (at_server s).room ≡ false → ⊥
both_wait shape events s c v at up_a up_b holds full_b holds_v full_a =
    let l = log_of after (nothing_yet shape) events in
    let grounded : Grounded s l = run_grounded shape events s at.sound at.run in
    let entries = entries_many shape events s at in
    let many_a : 2 ≤ length s.wire.wire.to_a = omega (arith, entries, no_room (length s.wire.wire.to_a + 1) s.shape.entries full_a) in
    let many_b : 2 ≤ length s.wire.wire.to_b = omega (arith, entries, no_room (length s.wire.wire.to_b + 1) s.shape.entries full_b) in
    let links = lane_links shape events s at.sound at.run at.clean in
    let both = many_wait links.place s.wire.lossy s.wire.wire.to_a s.wire.wire.to_b links.to_theirs links.to_mine many_a many_b in
    let phase_a : s.client.link.phase ≡ phase.Established =
    sym (ap (λ (x : ChannelState). live_phase x phase.OwesVersInfo s.client.link.phase) up_a) ∙ links.mine ∙ ap (phase_at Initiator) both in
    let phase_b : s.server.link.phase ≡ phase.Established =
    sym (ap (λ (x : ChannelState). live_phase x phase.AwaitsVersInfo s.server.link.phase) up_b) ∙ links.theirs ∙ ap (phase_at Responder) both in
    let first = first_of s.wire.wire.to_a many_a in
    let owed = client_owes s.client l.transcript.a grounded.knows.rests.client.stands phase_a (holds_urgent s.client (at_client s) first.0 c first.1 holds) in
    let owing = server_owes l.shape s.server (at_server s) l.transcript.b l.work.server v grounded.knows.counted.server phase_b holds_v in
    let on = lane_meets shape events s at.sound at.run at.clean in
    let d = deal (asks_of shape) (answers_of shape) on.meets.handshakes.sid in
    let there = on.meets.handshakes.theirs up_b (ap is_established phase_b) in
    let owns : (is_some s.server.handshake.owed ≡ true) ⊎ (there.place ≡ AllSaid) =
    elim owing [
      | inl owes ↦ inl owes
      | inr opened ↦ inr (open_place false d Responder (server_core s.server) l.transcript.b on.stand.theirs there opened)
    ] in
    let transcript : l.transcript ≡ transcript_behind events = transcript_is (nothing_yet shape) events in
    never_both false d s.client.handshake s.server.handshake l.transcript.a l.transcript.b (on.meets.handshakes.mine up_a (ap is_established phase_a)) there owed owns
    (subst (λ (x : TranscriptLog). IsFront (heard x.b) (said x.a)) (sym transcript) (heard_messages shape events s B at.sound at.run at.clean up_b))
    (subst (λ (x : TranscriptLog). IsFront (heard x.a) (said x.b)) (sym transcript) (heard_messages shape events s A at.sound at.run at.clean up_a))

-- BOTH ARE IDLE
pub record BothIdle (e : End) (s : LaneState) (one next : DiskEvent) (t : LaneState) : Type 0 where
  pub first : one ≡ OnWire (Idle e)
  pub second : next ≡ OnWire (Idle (peer_of e))
  pub rest : BothRest s
  pub same : t ≡ s

client_first : (shape : Shape) (events : List DiskEvent) (s : LaneState) (one : DiskEvent) (m : LaneState) (next : DiskEvent) (t : LaneState) → Reached shape events s → s.stopped ≡ false
    → ClientCalm s one m → ServerCalm m next t → BothIdle A s one next t
client_first shape events s one m next t at runs (inl rested) (inl server) = record {
  first = rested.event_is;
  second = server.event_is;
  rest = record { client = rested.rule; server = subst (λ (x : LaneState). server_rules.server_rule x.server (at_server x) ≡ server_rules.Idles) rested.same server.rule };
  same = server.same ∙ rested.same;
}
client_first shape events s one m next t at runs (inl rested) (inr (inl server)) =
    let full : (at_server s).room ≡ false = subst (λ (x : LaneState). (at_server x).room ≡ false) rested.same server.full in
    absurd (not_empty shape events s s.wire.wire.to_a at (no_room (length s.wire.wire.to_a + 1) s.shape.entries full)
    (none_waits s.wire.wire.to_a (client_idles s.client (at_client s) rested.rule).rests.first))
client_first shape events s one m next t at runs (inl rested) (inr (inr off)) =
    true_is_false (sym off.stopped ∙ ap (λ (x : LaneState). x.stopped) rested.same ∙ runs)
client_first shape events s one m next t at runs (inr waits) (inl server) =
    let rule : server_rules.server_rule s.server (at_server s) ≡ server_rules.Idles =
    subst (λ (x : LaneState). server_rules.server_rule x.server (at_server x) ≡ server_rules.Idles) waits.is server.rule in
    absurd (not_empty shape events s s.wire.wire.to_b at (no_room (length s.wire.wire.to_b + 1) s.shape.entries waits.full)
    (none_waits s.wire.wire.to_b (server_idles s.server (at_server s) rule).first))
client_first shape events s one m next t at runs (inr waits) (inr (inl server)) =
    let full : (at_server s).room ≡ false = subst (λ (x : LaneState). (at_server x).room ≡ false) waits.is server.full in
    let holds : server_holds (server_rules.server_rule s.server (at_server s)) s.server ≡ Some t.server =
    subst (λ (x : LaneState). server_holds (server_rules.server_rule x.server (at_server x)) x.server ≡ Some t.server) waits.is server.holds in
    let up : s.wire.wire.end_b ≡ Up = sym (ap (λ (x : LaneState). x.wire.wire.end_b) waits.is) ∙ waits_up_b m t server in
    absurd (both_wait shape events s m.client t.server at (waits_up_a s m waits) up waits.holds waits.full holds full)
client_first shape events s one m next t at runs (inr waits) (inr (inr off)) =
    true_is_false (sym off.stopped ∙ ap (λ (x : LaneState). x.stopped) waits.is ∙ runs)

server_first : (shape : Shape) (events : List DiskEvent) (s : LaneState) (one : DiskEvent) (m : LaneState) (next : DiskEvent) (t : LaneState) → Reached shape events s → s.stopped ≡ false
    → ServerCalm s one m → ClientCalm m next t → BothIdle B s one next t
server_first shape events s one m next t at runs (inl rested) (inl client) = record {
  first = rested.event_is;
  second = client.event_is;
  rest = record { client = subst (λ (x : LaneState). client_rules.client_rule x.client (at_client x) ≡ client_rules.Idles) rested.same client.rule; server = rested.rule };
  same = client.same ∙ rested.same;
}
server_first shape events s one m next t at runs (inl rested) (inr client) =
    let full : (at_client s).room ≡ false = subst (λ (x : LaneState). (at_client x).room ≡ false) rested.same client.full in
    absurd (not_empty shape events s s.wire.wire.to_b at (no_room (length s.wire.wire.to_b + 1) s.shape.entries full)
    (none_waits s.wire.wire.to_b (server_idles s.server (at_server s) rested.rule).first))
server_first shape events s one m next t at runs (inr (inl waits)) (inl client) =
    let rule : client_rules.client_rule s.client (at_client s) ≡ client_rules.Idles =
    subst (λ (x : LaneState). client_rules.client_rule x.client (at_client x) ≡ client_rules.Idles) waits.is client.rule in
    absurd (not_empty shape events s s.wire.wire.to_a at (no_room (length s.wire.wire.to_a + 1) s.shape.entries waits.full)
    (none_waits s.wire.wire.to_a (client_idles s.client (at_client s) rule).rests.first))
server_first shape events s one m next t at runs (inr (inl waits)) (inr client) =
    let full : (at_client s).room ≡ false = subst (λ (x : LaneState). (at_client x).room ≡ false) waits.is client.full in
    let holds : client_holds (client_rules.client_rule s.client (at_client s)) s.client ≡ Some t.client =
    subst (λ (x : LaneState). client_holds (client_rules.client_rule x.client (at_client x)) x.client ≡ Some t.client) waits.is client.holds in
    let up : s.wire.wire.end_a ≡ Up = sym (ap (λ (x : LaneState). x.wire.wire.end_a) waits.is) ∙ waits_up_a m t client in
    absurd (both_wait shape events s t.client m.server at up (waits_up_b s m waits) holds full waits.holds waits.full)
server_first shape events s one m next t at runs (inr (inr off)) client = true_is_false (sym off.stopped ∙ runs)

pub both_idle : (e : End) (shape : Shape) (events : List DiskEvent) (s : LaneState) (one : DiskEvent) (m : LaneState) (next : DiskEvent) (t : LaneState) → Reached shape events s → s.stopped ≡ false
    → LaneStep s one m → IsCalm e one → LaneStep m next t → IsCalm (peer_of e) next → BothIdle e s one next t
both_idle A shape events s one m next t at runs step calm then quiet = client_first shape events s one m next t at runs (client_calm s one m step calm) (server_calm m next t then quiet)
both_idle B shape events s one m next t at runs step calm then quiet = server_first shape events s one m next t at runs (server_calm s one m step calm) (client_calm m next t then quiet)

-- AND HAVE FINISHED where nothing was lost
pub have_finished : (shape : Shape) (events : List DiskEvent) (s : LaneState) → Reached shape events s → s.wire.lossy ≡ false → BothRest s → HaveFinished s
have_finished shape events s at whole rest =
    let l = log_of after (nothing_yet shape) events in
    let grounded : Grounded s l = run_grounded shape events s at.sound at.run in
    let finished : Finished s l = quiet_ends shape events s at.sound at.run at.clean whole grounded rest in
    let stand = grounded.knows.all.stands.requests in
    let none : length s.client.pending ≡ 0 = omega (arith, ap length stand.pending, length-drop l.work.done l.work.issued, finished.at_rest.finished) in
    record {
      finished = and_so (is_some s.client.session) (is_nothing s.client.pending) finished.client (nothing_of s.client.pending none);
      server = finished.server;
      to_client = none_waits s.wire.wire.to_a (client_idles s.client (at_client s) rest.client).rests.first;
      to_server = none_waits s.wire.wire.to_b (server_idles s.server (at_server s) rest.server).first;
    }
  where
    and_so : (a b : Bool) → a ≡ true → b ≡ true → (a && b) ≡ true
    and_so true true one other = refl
    and_so false b one other = absurd (cc one)
    and_so true false one other = absurd (cc other)

-- THE LAWS
pub calm_are_still : (shape : Shape) (events : List DiskEvent) (s : LaneState) (e : End) (one : DiskEvent) (m : LaneState) (next : DiskEvent) (t : LaneState) → IsShape shape
    → Run LaneStep (fresh shape) events s → LaneStep s one m → IsCalm e one → LaneStep m next t → IsCalm (peer_of e) next → AreStill t (after (after (log_of after (nothing_yet shape) events) one) next)
calm_are_still shape events s e one m next t sound run step calm then quiet =
    are_still e s (log_of after (nothing_yet shape) events) one m next t (run_grounded shape events s sound run) step calm then quiet

pub calm_are_idle : (shape : Shape) (events : List DiskEvent) (s : LaneState) (e : End) (one : DiskEvent) (m : LaneState) (next : DiskEvent) (t : LaneState) → IsShape shape
    → Run LaneStep (fresh shape) events s → s.wire.forged ≡ false → s.stopped ≡ false → LaneStep s one m → IsCalm e one → LaneStep m next t → IsCalm (peer_of e) next
    → (one ≡ OnWire (Idle e)) × (next ≡ OnWire (Idle (peer_of e))) × (t ≡ s)
calm_are_idle shape events s e one m next t sound run clean runs step calm then quiet = grind (arith, both_idle)

pub calm_have_finished : (shape : Shape) (events : List DiskEvent) (s : LaneState) (e : End) (one : DiskEvent) (m : LaneState) (next : DiskEvent) (t : LaneState) → IsShape shape
    → Run LaneStep (fresh shape) events s → s.wire.forged ≡ false → s.wire.lossy ≡ false → s.stopped ≡ false → LaneStep s one m → IsCalm e one → LaneStep m next t → IsCalm (peer_of e) next
    → HaveFinished t
calm_have_finished shape events s e one m next t sound run clean whole runs step calm then quiet =
    let at : Reached shape events s = record { sound = sound; run = run; clean = clean } in
    let idle = both_idle e shape events s one m next t at runs step calm then quiet in
    subst HaveFinished (sym idle.same) (have_finished shape events s at whole idle.rest)
