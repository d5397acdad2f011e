-- What remains on a port that nobody forged falls by each packet that an end takes.
use Rattle.std.proofs.Common.{◌≡◌, ℕ, ◌+◌, ◌*◌, ◌<◌, ◌≤◌, Bool, false, Some, None, List, length, sym, subst, ap, ◌∙◌, arith, length-drop}
use Rattle.std.specs.Prelude.{⊤}
use Rattle.ldc_link.specs.declared.phase.Role.{Role}
use Rattle.ldc_link.specs.declared.phase.Role.TheVariants.{Initiator, Responder}
use Rattle.ldc_link.specs.LinkState.{LinkState}
use Rattle.ldc_packet.specs.declared.packet.Subtype.{Subtype}
use Rattle.ldc_queue.specs.declared.end.ChannelState.{ChannelState}
use Rattle.ldc_queue.specs.declared.end.ChannelState.TheVariants.{Up}
use Rattle.ldc_queue.specs.declared.end.End.{End}
use Rattle.ldc_queue.specs.Transcript.{Utterance}
use Rattle.ldc_queue.specs.Wire.{peer_of, state_of}
use Rattle.runs.specs.Lawful.{log_of}
use Rattle.runs.specs.Run.{Run}
use Rattle.vio_handshake.specs.declared.handshake.Handshake.{Handshake}
use Rattle.vio_tag.specs.declared.message.MsgBody.{MsgBody}
use Rattle.lane_models.specs.TranscriptLog.{transcript_of}
use Rattle.lane_models.specs.WireAt.{IsFirstOn, IsUp}
use Rattle.lane_models.proofs.PacketsTaken.{unforged_took}
use Rattle.lane_models.specs.LaneCore.{end_of}
use Rattle.lane_models.specs.PacketsLeft.{packets_left}
use Rattle.lane_models.specs.Standing.{EndStands}
use Rattle.lane_models.proofs.Ruling.{says_of}
use Rattle.lane_models.specs.FramesStand.{CountsStand, FramesStand}
use Rattle.lane_models.specs.NetEndPutting.{cleared_ring}
use Rattle.lane_models.specs.NetEndRule.{Takes}
use Rattle.lane_models.specs.NetEndState.{NetEndState, NetSession, opened_net_end}
use Rattle.lane_models.specs.NetEndStep.{NetLeft, Took}
use Rattle.lane_models.specs.NetEndTaking.{GoesOn, NetTake, NetTakes, Resets}
use Rattle.lane_models.specs.NetEvent.{NetEvent, Steps}
use Rattle.lane_models.specs.NetLaneState.{IsNetShape, NetLaneState, NetShape, memory_of, net_end, role_at, seen_at, with_left}
use Rattle.lane_models.specs.NetLaneStep.{EndSteps, net_wire}
use Rattle.lane_models.specs.Offers.{port_offer}
use Rattle.lane_models.specs.PortLog.{PortLog, after, no_events}
use Rattle.lane_models.specs.PortState.{OnLane, PortEvent, PortState, PortStep, before, fresh_port}
use Rattle.port_laws.specs.NetCore.{is_begun, lane_core, net_core, net_core_at}
use Rattle.port_laws.specs.PortCore.{port_core, port_events}
use Rattle.port_laws.specs.Remaining.{end_left, put_weight, ready_weight, remaining, remaining_of, session_left}
use Rattle.port_laws.proofs.CoreLaws.{offers_match, sizes_fit}
use Rattle.port_laws.proofs.FlightSums.{first_gone}
use Rattle.port_laws.proofs.MemoryLong.{room_behind}
use Rattle.port_laws.proofs.MemoryRoom.{MemoryHasRoom, before_room}
use Rattle.port_laws.proofs.MessageDoes.{MessageDoes, TakeDoes}
use Rattle.port_laws.proofs.PortCounts.{Ready}
use Rattle.port_laws.proofs.PortRuns.{before_core, fresh_port_core, port_fits_behind, port_step_core}
use Rattle.port_laws.proofs.RemainingEnds.{answers_less, groups_same, own_left}
use Rattle.port_laws.proofs.RemainingReady.{cleared_none, freed_less}
use Rattle.port_laws.proofs.RemainingSteps.{left_at, more_at, ready_here, room_at, seen_up, steps_before}
use Rattle.port_laws.proofs.RuleFrames.{end_acts}
use Rattle.port_laws.proofs.TookWhat.{Fails, Opens, Reads, Stays, TookWhat, took_what}
use Rattle.port_laws.proofs.EndMoves.{one_most}
use Rattle.port_laws.proofs.StepCounts.{counts_stand}
use Rattle.port_laws.proofs.RingActs.{reach_memory}

-- WHAT AN END MAY OWE for a packet that it takes: the switch's end an answer to groups
abbrev slack : Role → ℕ
slack Initiator = 0
slack Responder = 2

abbrev Gained : Role → ℕ → List ℕ → NetEndState → List ℕ → NetEndState → Type 0
Gained role more memory s new t = own_left role more new t ≤ own_left role more memory s + slack role

abbrev Gains : Role → ℕ → List ℕ → NetEndState → NetTake → Type 0
Gains role more memory s (GoesOn t opens new) = Gained role more memory s new t
Gains role more memory s (Resets cause) = ⊤

same_gained : (role : Role) (more : ℕ) (memory : List ℕ) (s : NetEndState) → Gained role more memory s memory s
same_gained role more memory s = omega arith

-- IN SESSION, by its sums
abbrev Sum : Role → ℕ → ℕ → List ℕ → NetSession → ℕ
Sum role slots held memory p = session_left role slots held memory (Some p)

ack_falls : (role : Role) (fresh few many ready more rest : ℕ) → few ≤ many → ready ≤ more
    → 8 * fresh + put_weight role * few + ready_weight role * ready + rest ≤ 8 * fresh + put_weight role * many + ready_weight role * more + rest
ack_falls role fresh few many ready more rest one two = grind arith

abbrev GainedBy : Role → ℕ → List ℕ → NetEndState → NetEndState → List ℕ → Type 0
GainedBy role more memory s t new = Gained role more memory s new t

does_gain : (role : Role) (more : ℕ) (memory : List ℕ) (s : NetEndState) (p : NetSession) (subtype : Subtype) (b : MsgBody) (t : NetEndState) (new : List ℕ) → s.session ≡ Some p → CountsStand s p
    → 1 ≤ s.slots → 64 * s.slots ≤ length memory → MessageDoes role s p memory subtype b t new → Gained role more memory s new t
does_gain role more memory s p subtype b t new session stands some room given =
    grind (arith, answers_less, groups_same, length-drop, ack_falls, one_most, freed_less, same_gained)

take_gains : (role : Role) (more : ℕ) (memory : List ℕ) (s : NetEndState) (p : NetSession) (subtype : Subtype) (b : MsgBody) (take : NetTake) → s.session ≡ Some p → CountsStand s p
    → 1 ≤ s.slots → 64 * s.slots ≤ length memory → TakeDoes role s p memory subtype b take → Gains role more memory s take
take_gains role more memory s p subtype b (GoesOn t opens new) session stands some room does = does_gain role more memory s p subtype b t new session stands some room does.does
take_gains role more memory s p subtype b (Resets cause) session stands some room does = tt

-- THE PACKET: without a session one may open, whose ring is cleared
pub took_gains : (role : Role) (more : ℕ) (memory packet : List ℕ) (s t : NetEndState) (turns : List Utterance) (opens : Bool) (new : List ℕ) → EndStands role (net_core role s) turns → FramesStand s
    → 1 ≤ s.slots → 64 * s.slots ≤ length memory → NetTakes role s memory packet (GoesOn t opens new) → Gained role more memory s new t
took_gains role more memory packet s t turns opens new ends stands some room takes = by_what (GoesOn t opens new) (took_what role s turns memory packet (GoesOn t opens new) ends takes)
  where
    gains_as : (k : LinkState) (h : Handshake) (take : NetTake) → Gains role more memory (record s { link = k; handshake = h }) take → Gains role more memory s take
    gains_as k h take gains = grind arith

    cleared_gains : (r : Role) → r ≡ Responder → s.session ≡ None → Gained r more memory s (cleared_ring s.slots memory) (opened_net_end s)
    cleared_gains r role_is closed = grind (arith, cleared_none)

    by_what : (take : NetTake) → TookWhat role s memory take → Gains role more memory s take
    by_what take (Stays k h is) = subst (Gains role more memory s) (sym is) (same_gained role more memory s)
    by_what take (Opens k h role_is closed is) = subst (Gains role more memory s) (sym is) (cleared_gains role role_is closed)
    by_what take (Fails cause is) = subst (Gains role more memory s) (sym is) tt
    by_what take (Reads k h p m session does) =
        let counts : CountsStand s p = counts_stand s p stands session in
        gains_as k h take (take_gains role more memory (record s { link = k; handshake = h }) p m.subtype m.body take session
        (record { seen = counts.seen; held = counts.held; ids = counts.ids; asked = counts.asked; answered = counts.answered; some = counts.some })
        some room does)

-- THE LANE
weighs : (role : Role) (few many left less : ℕ) → few ≤ many → left ≤ less + slack role → put_weight role * few + left ≤ put_weight role * many + less + slack role
weighs role few many left less packets own = grind arith

end_took : (x : ChannelState) (role : Role) (more : ℕ) (memory new : List ℕ) (s t : NetEndState) → x ≡ Up → packets_left (net_core role t) ≤ packets_left (net_core role s)
    → Gained role more memory s new t → end_left x role more new t ≤ end_left x role more memory s + slack role
end_took x role more memory new s t up packets gained = grind (arith, weighs)

at_up : (x : ChannelState) (role : Role) (s : NetEndState) → x ≡ Up → packets_left (net_core_at role (is_begun x) s) ≡ packets_left (net_core role s)
at_up x role s up = ap (λ (y : ChannelState). packets_left (net_core_at role (is_begun y) s)) up

core_packets : (e : End) (u : NetLaneState) → IsUp e u.wire.wire → packets_left (end_of e (lane_core u)) ≡ packets_left (net_core (role_at e) (net_end e u))
core_packets e u up = grind (arith, at_up)

-- one packet less waits, which counted more than what it brings
without_first : (e : End) (u : NetLaneState) (packet : List ℕ) (opens : Bool) (queued : ℕ) (left : NetLeft) → IsFirstOn packet e u.wire.wire → left.peer ≡ memory_of (peer_of e) u
    → left_at e queued left.own left.end u ≤ left_at e queued (memory_of e u) (net_end e u) u + slack (role_at e)
    → remaining_of (record (with_left e left u) { wire = net_wire (Steps e (Took packet opens)) u }) queued + 1 ≤ remaining_of u queued
without_first e u packet opens queued left first peer less = grind (arith, first_gone)

first_seen : (e : End) (u : NetLaneState) (packet : List ℕ) → (seen_at e u).first ≡ Some packet → IsFirstOn packet e u.wire.wire
first_seen e u packet first = grind arith

state_took : (e : End) (left : NetLeft) (u : NetLaneState) (packet : List ℕ) (opens : Bool) → IsUp e u.wire.wire
    → packets_left (end_of e (lane_core (record (with_left e left u) { wire = net_wire (Steps e (Took packet opens)) u }))) ≡ packets_left (net_core (role_at e) left.end)
state_took e left u packet opens up = grind (arith, at_up)

lane_took : (shape : NetShape) (u : PortState) (l : PortLog) (e : End) (packet : List ℕ) (opens : Bool) (t : NetLaneState) → Ready shape u l → MemoryHasRoom shape.slots u.lane
    → EndSteps e u.lane (Took packet opens) t → packets_left (end_of e (lane_core t)) ≤ packets_left (end_of e (lane_core u.lane))
    → remaining_of t (length u.queue) + 1 ≤ remaining_of u.lane (length u.queue)
lane_took shape u l e packet opens t ready room step packets =
    let s : NetEndState = net_end e u.lane in
    let says = says_of (role_at e) s (seen_at e u.lane) (Takes packet) step.step.0 in
    let up : IsUp e u.lane.wire.wire = seen_up e u.lane says.0.up in
    let acting = end_acts shape e u l ready says.0.up in
    let slots_is = acting.counts.slots_is in
    let gained = took_gains (role_at e) (more_at e (length u.queue)) (memory_of e u.lane) packet s step.left.end (transcript_of e l.transcript) opens step.left.own acting.ends acting.stands
    (omega (arith, slots_is, acting.slots_fit.some)) (omega (arith, slots_is, room_at e shape.slots u.lane room)) step.step.1 in
    let fewer : packets_left (net_core (role_at e) step.left.end) ≤ packets_left (net_core (role_at e) s) =
    omega (arith, packets, core_packets e u.lane up, state_took e step.left u.lane packet opens up, ap (λ (x : NetLaneState). packets_left (end_of e (lane_core x))) step.is) in
    let less = end_took (state_of e u.lane.wire.wire) (role_at e) (more_at e (length u.queue)) (memory_of e u.lane) step.left.own s step.left.end up fewer gained in
    subst (λ (x : NetLaneState). remaining_of x (length u.queue) + 1 ≤ remaining_of u.lane (length u.queue)) (sym step.is)
    (without_first e u.lane packet opens (length u.queue) step.left (first_seen e u.lane packet says.1) (step.step.2 ∙ reach_memory e u.lane) less)

-- ALONG EVERY RUN
pub port_took : (shape : NetShape) (events : List PortEvent) (s : PortState) (e : End) (packet : List ℕ) (opens : Bool) (t : PortState) → IsNetShape shape → Run PortStep (fresh_port shape) events s
    → s.lane.wire.forged ≡ false → PortStep s (OnLane (Steps e (Took packet opens))) t → remaining t < remaining s
port_took shape events s e packet opens t is run clean step =
    let event : NetEvent = Steps e (Took packet opens) in
    let u : PortState = before event s in
    let one : 1 ≤ 5 = omega arith in
    let packets : packets_left (end_of e (port_core t)) ≤ packets_left (end_of e (port_core s)) =
    unforged_took shape.entries (port_offer Initiator shape.address shape.slots) (port_offer Responder shape.address shape.slots) (port_events events) (port_core s) e packet opens (port_core t)
    (sizes_fit shape is) (offers_match shape is) one one (fresh_port_core shape events s run) clean (port_step_core s (OnLane event) t (port_fits_behind shape events s run) step) in
    let here : packets_left (end_of e (lane_core t.lane)) ≤ packets_left (end_of e (lane_core u.lane)) =
    subst (λ x. packets_left (end_of e (lane_core t.lane)) ≤ packets_left (end_of e x)) (sym (before_core event s)) packets in
    let less = lane_took shape u (log_of after (no_events shape) events) e packet opens t.lane (ready_here shape events s event is run)
    (before_room shape.slots event s (room_behind shape events s is run)) step.1 here in
    omega (arith, less, steps_before e (Took packet opens) s, ap (λ (x : List (List ℕ)). remaining_of t.lane (length x)) step.2)
