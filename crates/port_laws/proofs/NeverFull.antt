-- Never do both ends of a port that nobody forged find no room, one directly after the other. In the opening one of them waits for the other,
-- and a guest in session has few packets on the way.
use Rattle.std.proofs.Common.{◌≡◌, ◌≤◌, ◌⊎◌, inl, inr, true, false, Option, Some, None, List, [], ◌∷◌, ◌++◌, length, refl, sym, subst, ap, ◌∙◌, arith}
use Rattle.std.specs.Prelude.{is_none, is_some}
use Rattle.ldc_link.specs.declared.phase.LinkPhase.TheVariants as phase
use Rattle.ldc_link.specs.declared.phase.Role.{Role}
use Rattle.ldc_link.specs.declared.phase.Role.TheVariants.{Initiator, Responder}
use Rattle.ldc_link.specs.LinkState.{LinkState, first_phase, is_established}
use Rattle.ldc_queue.specs.declared.end.ChannelState.{ChannelState}
use Rattle.ldc_queue.specs.declared.end.End.TheVariants.{A, B}
use Rattle.ldc_queue.specs.Transcript.{Utterance}
use Rattle.runs.specs.Lawful.{log_append, log_of}
use Rattle.runs.specs.Run.{Run, run_push}
use Rattle.vio_handshake.proofs.Places.{AllSaid, Deal}
use Rattle.vio_handshake.specs.declared.handshake.Handshake.{Handshake}
use Rattle.vio_tag.specs.declared.message.Message.{Message}
use Rattle.lane_models.specs.Seeing.{Seen}
use Rattle.lane_models.specs.TranscriptLog.{TranscriptLog}
use Rattle.lane_models.specs.WireAt.{IsUp}
use Rattle.lane_models.specs.WireLog.{WireLog}
use Rattle.lane_models.proofs.HandshakePlaces.{deal, open_place}
use Rattle.lane_models.proofs.ManyWait.{many_wait, owes_some}
use Rattle.lane_models.proofs.PartsWaiting.{LongSaid, long_run}
use Rattle.lane_models.proofs.WhoOwes.{never_both}
use Rattle.lane_models.specs.EndCore.{EndCore}
use Rattle.lane_models.specs.LaneCore.{LaneCore}
use Rattle.lane_models.specs.LinkPlaces.{BothUp, live_phase, phase_at}
use Rattle.lane_models.specs.Sides.{Sides, sides_of}
use Rattle.lane_models.specs.Standing.{EndStands}
use Rattle.cookie_copy.specs.Reach.{Reach}
use Rattle.lane_models.proofs.Refuting.{none_some}
use Rattle.lane_models.proofs.Ruling.{says_of}
use Rattle.lane_models.specs.NetEndPutting.{net_holds}
use Rattle.lane_models.specs.NetEndRule.{Announces, Fetches, NetRule, Puts, Replies, Says, Tells, port_rule}
use Rattle.lane_models.specs.NetEndState.{NetEndState, NetSession}
use Rattle.lane_models.specs.NetEndStep.{Blocked}
use Rattle.lane_models.specs.NetEvent.{CalmTick, Steps}
use Rattle.lane_models.specs.NetLaneState.{IsNetShape, NetShape, reach_of, seen_at}
use Rattle.lane_models.specs.PortLog.{PortLog, after, no_events}
use Rattle.lane_models.specs.PortMay.{PortMay}
use Rattle.lane_models.specs.PortState.{OnLane, PortEvent, PortState, PortStep, before, fresh_port}
use Rattle.port_laws.specs.NetCore.{lane_core, net_core}
use Rattle.port_laws.specs.PortCore.{port_core, port_events}
use Rattle.port_laws.proofs.CoreLaws.{sizes_fit}
use Rattle.port_laws.proofs.EveryRun.{every_run}
use Rattle.port_laws.proofs.FewWait.{guest_few}
use Rattle.port_laws.proofs.LastEvent.{last_lawful, many_entries}
use Rattle.port_laws.proofs.NoRefusal.{parts_at}
use Rattle.port_laws.proofs.PeerOpens.{TwoEnds, mine_at, theirs_at}
use Rattle.port_laws.proofs.PortCounts.{PortCounts, before_wire, wire_event}
use Rattle.port_laws.proofs.PortRuns.{by_option, before_core, fresh_port_core, spoken_behind}
use Rattle.port_laws.proofs.PortTwoEnds.{answers_of, asks_of}
use Rattle.port_laws.proofs.EndCounting.{own_left}
use Rattle.port_laws.proofs.RingActs.{Finds, acting_at, step_now}
use Rattle.port_laws.proofs.RingRuns.{finds_before, port_kept}
use Rattle.port_laws.proofs.ExchangeGuest.{shut_unsaid}
use Rattle.port_laws.proofs.ExchangeRuns.{KeptExchange, port_exchange}

-- AN END WITHOUT A SESSION that has a packet to put owes a message of its handshake
link_owes : (role : Role) (s : NetEndState) (turns : List Utterance) (owed : Option Message) → EndStands role (net_core role s) turns → s.session ≡ None → 1 ≤ length s.link.to_send → s.handshake.owed ≡ owed
    → is_some s.handshake.owed ≡ true
link_owes role s turns (Some message) stands none some is = ap is_some is
link_owes role s turns None stands none some is =
    none_some s.link.to_send (sym (shut_unsaid role s turns stands none) ∙ own_left (is_none s.handshake.owed) s.link.to_send (ap is_none is) some)

shut_owes : (role : Role) (s : NetEndState) (at : Seen) (reach : Reach) (rule : NetRule) (held : NetEndState) (turns : List Utterance) → EndStands role (net_core role s) turns → s.session ≡ None
    → s.link.phase ≡ phase.Established → port_rule role s at ≡ rule → net_holds rule s reach ≡ Some held → is_some s.handshake.owed ≡ true
shut_owes role s at reach Puts held turns stands none up is same =
    link_owes role s turns s.handshake.owed stands none (owes_some s.link up (says_of role s at Puts is).1) refl
shut_owes role s at reach (Says message) held turns stands none up is same = ap is_some (says_of role s at (Says message) is).2
shut_owes role s at reach (Replies p reply) held turns stands none up is same = none_some p (sym none ∙ (says_of role s at (Replies p reply) is).0.session)
shut_owes role s at reach (Fetches p activity) held turns stands none up is same = none_some p (sym none ∙ (says_of role s at (Fetches p activity) is).0.session)
shut_owes role s at reach (Tells p) held turns stands none up is same = none_some p (sym none ∙ (says_of role s at (Tells p) is).0.in_session.session)
shut_owes role s at reach (Announces p) held turns stands none up is same = none_some p (sym none ∙ (says_of role s at (Announces p) is).0.in_session.session)
shut_owes role s at reach _ held turns stands none up is same = none_some held same

owes_or_open : (role : Role) (s : NetEndState) (at : Seen) (reach : Reach) (held : NetEndState) (turns : List Utterance) (session : Option NetSession) → EndStands role (net_core role s) turns
    → s.link.phase ≡ phase.Established → net_holds (port_rule role s at) s reach ≡ Some held → s.session ≡ session → (is_some s.handshake.owed ≡ true) ⊎ (is_some s.session ≡ true)
owes_or_open role s at reach held turns session stands up holds is = grind (arith, shut_owes)

-- WHAT A GUEST SAID is in parts of 56 bytes but the last ones
guest_long : (shape : NetShape) (s : PortState) (l : PortLog) → IsNetShape shape → PortCounts shape s l → LongSaid l.transcript.a
guest_long shape s l is counts =
    subst (λ (x : TranscriptLog). LongSaid x.a) (spoken_behind shape counts.events ∙ sym (ap (λ (x : PortLog). x.transcript) counts.log))
    (long_run shape.entries (asks_of shape) (answers_of shape) (port_events counts.events) (port_core s) (sizes_fit shape is) (fresh_port_core shape counts.events s counts.run)).a.long

-- NEVER BOTH
pub never_full : (shape : NetShape) (events : List PortEvent) (s m t : PortState) → IsNetShape shape → Run PortStep (fresh_port shape) events s → s.lane.wire.forged ≡ false → s.lane.wire.lossy ≡ false
    → PortStep s (OnLane (Steps A Blocked)) m → PortStep m (OnLane (Steps B Blocked)) t → ⊥
never_full shape events s m t is run clean whole first second =
    let one : PortEvent = OnLane (Steps A Blocked) in
    let two : PortEvent = OnLane (Steps B Blocked) in
    let so_far : List PortEvent = events ++ one ∷ [] in
    let l : PortLog = log_of after (no_events shape) events in
    let now : PortLog = log_of after (no_events shape) so_far in
    let run_one = run_push PortStep (fresh_port shape) s m events one run first in
    let had : KeptExchange shape s l = port_exchange shape events s is run in
    let wire : s.lane.wire ≡ l.wire = had.ways.kept.counts.wire in
    let unforged : l.wire.forged ≡ false = ap (λ (w : WireLog). w.forged) (sym wire) ∙ clean in
    let finds : Finds shape s l = finds_before shape s l (CalmTick 0) is had.ways.kept unforged in
    let may : PortMay l one = last_lawful shape PortMay events one (every_run shape so_far m is run_one) in
    let log : now ≡ after l one = log_append after (no_events shape) events (one ∷ []) in
    let then_ : PortMay (after l one) two =
    subst (λ (x : PortLog). PortMay x two) log
    (last_lawful shape PortMay so_far two (every_run shape (so_far ++ two ∷ []) t is (run_push PortStep (fresh_port shape) m t so_far two run_one second))) in
    let many : 8 ≤ l.shape.entries = many_entries shape events s is run in
    let up : IsUp A s.lane.wire.wire = ap (λ (w : WireLog). w.wire.end_a) wire ∙ may.table.0 in
    let other_up : IsUp B s.lane.wire.wire = ap (λ (w : WireLog). w.wire.end_b) wire ∙ then_.table.0 in
    let many_b : 7 ≤ length s.lane.wire.wire.to_b =
    omega (arith, many, may.table.1, ap (λ (w : WireLog). length w.wire.to_b) wire) in
    let many_a : 7 ≤ length s.lane.wire.wire.to_a =
    omega (arith, many, then_.table.1, ap (λ (w : WireLog). length w.wire.to_a) wire) in
    let in_session : (p : NetSession) → s.lane.guest.session ≡ Some p → ⊥ = λ p session.
    let counts = had.ways.kept.counts in
    let few = guest_few shape s l p finds (had.ways.ways unforged) (had.exchange unforged) up other_up session whole (parts_at shape s l A is counts) (guest_long shape s l is counts) in
    omega (arith, many_b, few) in
    let sides : Sides = sides_of (lane_core s.lane) l.transcript in
    let two_ends : TwoEnds (asks_of shape) (answers_of shape) Initiator sides = finds.two_ends.two_ends A in
    let d : Deal = deal (asks_of shape) (answers_of shape) two_ends.meets.handshakes.sid in
    let both : two_ends.meets.links.place ≡ BothUp =
    many_wait two_ends.meets.links.place s.lane.wire.lossy s.lane.wire.wire.to_a s.lane.wire.wire.to_b two_ends.meets.links.to_theirs two_ends.meets.links.to_mine (omega (arith, many_a)) (omega (arith, many_b)) in
    let phase_a : s.lane.guest.link.phase ≡ phase.Established =
    sym (ap (λ (x : ChannelState). live_phase x (first_phase Initiator) s.lane.guest.link.phase) up) ∙ two_ends.meets.links.mine ∙ ap (phase_at Initiator) both in
    let phase_b : s.lane.hub.link.phase ≡ phase.Established =
    sym (ap (λ (x : ChannelState). live_phase x (first_phase Responder) s.lane.hub.link.phase) other_up) ∙ two_ends.meets.links.theirs ∙ ap (phase_at Responder) both in
    -- the switch's end as it makes its step
    let u : PortState = before (Steps B Blocked) m in
    let same_core : (lane_core u.lane).b ≡ (lane_core m.lane).b =
    ap (λ (c : LaneCore). c.b) (before_core (Steps B Blocked) m) in
    let same_hub : m.lane.hub ≡ s.lane.hub = (step_now A s.lane m.lane Blocked first.1).peer_end in
    let same_wire = before_wire (Steps B Blocked) m ∙ wire_event s.lane (Steps A Blocked) m.lane first.1 in
    let link_is : u.lane.hub.link ≡ s.lane.hub.link =
    ap (λ (c : EndCore). c.link) same_core ∙ ap (λ (x : NetEndState). x.link) same_hub in
    let handshake_is : u.lane.hub.handshake ≡ s.lane.hub.handshake =
    ap (λ (c : EndCore). c.handshake) same_core ∙ ap (λ (x : NetEndState). x.handshake) same_hub in
    let open_is : is_some u.lane.hub.session ≡ is_some s.lane.hub.session =
    ap (λ (c : EndCore). c.is_open) same_core ∙ ap (λ (x : NetEndState). is_some x.session) same_hub in
    let found : Finds shape u now =
    finds_before shape m now (Steps B Blocked) is (port_kept shape so_far m is run_one)
    (ap (λ (x : PortLog). x.wire.forged) log ∙ unforged) in
    let hub_owes : (is_some s.lane.hub.handshake.owed ≡ true) ⊎ (is_some s.lane.hub.session ≡ true) =
    elim (owes_or_open Responder u.lane.hub (seen_at B u.lane) (reach_of B u.lane) second.1.left.end now.transcript.b u.lane.hub.session
    (acting_at shape B u now found (ap (λ (w : WireLog). w.wire.end_b) same_wire ∙ other_up)).ends (ap (λ (k : LinkState). k.phase) link_is ∙ phase_b) second.1.step.0 refl) [
      | inl owes ↦ inl (ap (λ (h : Handshake). is_some h.owed) (sym handshake_is) ∙ owes)
      | inr opened ↦ inr (sym open_is ∙ opened)
    ] in
    let not_in_session : s.lane.guest.session ≡ None → ⊥ = λ none.
    let owed = shut_owes Initiator s.lane.guest (seen_at A s.lane) (reach_of A s.lane) (port_rule Initiator s.lane.guest (seen_at A s.lane)) first.1.left.end l.transcript.a
    (acting_at shape A s l finds up).ends none phase_a refl first.1.step.0 in
    let at = mine_at (asks_of shape) (answers_of shape) Initiator sides two_ends up (ap is_established phase_a) in
    let there = theirs_at (asks_of shape) (answers_of shape) Initiator sides two_ends other_up (ap is_established phase_b) in
    let owns : (is_some s.lane.hub.handshake.owed ≡ true) ⊎ (there.place ≡ AllSaid) =
    elim hub_owes [
      | inl owes ↦ inl owes
      | inr opened ↦ inr (open_place true d Responder sides.theirs.core l.transcript.b two_ends.theirs there opened)
    ] in
    never_both true d s.lane.guest.handshake s.lane.hub.handshake l.transcript.a l.transcript.b at there owed owns (finds.two_ends.front other_up) (finds.two_ends.front_a up) in
    by_option s.lane.guest.session in_session not_in_session
