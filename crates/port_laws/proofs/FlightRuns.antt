-- Along every run of a port that nobody forged few packets wait and are still to be put.
use Rattle.std.proofs.Common.{◌≡◌, ℕ, ◌+◌, ◌*◌, ◌≤◌, Bool, true, false, Option, List, [], refl, subst, ap, ◌∙◌, arith}
use Rattle.std.specs.Prelude.{is_some, ⊤}
use Rattle.ldc_link.specs.declared.phase.Role.{Role}
use Rattle.ldc_link.specs.declared.phase.Role.TheVariants.{Initiator, Responder}
use Rattle.ldc_queue.specs.declared.end.End.{End}
use Rattle.ldc_queue.specs.declared.end.End.TheVariants.{A, B}
use Rattle.runs.specs.Lawful.{run_lawful}
use Rattle.runs.specs.Run.{Run}
use Rattle.lane_models.specs.TranscriptLog.{transcript_of}
use Rattle.lane_models.proofs.Lifting.{stand_run}
use Rattle.lane_models.proofs.PacketsTaken.{unforged_took}
use Rattle.lane_models.specs.EndCore.{EndCore}
use Rattle.lane_models.specs.LaneCore.{LaneCore, end_of, transcript_behind}
use Rattle.lane_models.specs.PacketsLeft.{packets_left}
use Rattle.lane_models.proofs.Ruling.{says_of}
use Rattle.lane_models.specs.NetEndPutting.{opened_by_put}
use Rattle.lane_models.specs.NetEndRule.{Takes}
use Rattle.lane_models.specs.NetEndState.{NetEndState, NetSession}
use Rattle.lane_models.specs.NetEndStep.{NetLeft, Sent, Took}
use Rattle.lane_models.specs.NetEndTaking.{GoesOn, NetTake, Resets}
use Rattle.lane_models.specs.NetEvent.{NetEvent, Steps}
use Rattle.lane_models.specs.NetLaneState.{IsNetShape, NetLaneState, NetShape, net_end, role_at, seen_at, with_left}
use Rattle.lane_models.specs.NetLaneStep.{EndSteps, net_wire}
use Rattle.lane_models.specs.Offers.{port_offer}
use Rattle.lane_models.specs.PortLog.{PortLog, after, no_events}
use Rattle.lane_models.specs.PortState.{OnLane, PortEvent, PortState, PortStep, before, fresh_port}
use Rattle.port_laws.specs.NetCore.{lane_core, more_of, one_if}
use Rattle.port_laws.specs.PortCore.{port_core, port_event, port_events}
use Rattle.port_laws.proofs.CoreLaws.{offers_match, sizes_fit}
use Rattle.port_laws.proofs.FlightSums.{FewFly, Known, Spends, TakeSpends, step_few}
use Rattle.port_laws.proofs.PortCounts.{PortCounts, Ready, counts_step, port_counts, ready_before}
use Rattle.port_laws.proofs.PortRuns.{before_core, fresh_port_core, port_fits_behind, port_step_core}
use Rattle.port_laws.proofs.RuleFrames.{end_acts}
use Rattle.port_laws.proofs.TookWhat.{TookWhat, took_what}

-- BY A PACKET that it takes an end may begin one message more, and two where its session opens
abbrev Rises : Option NetSession → Option NetSession → Type 0
Rises was now = more_of now + 2 * one_if (is_some was) ≤ more_of was + 1 + 2 * one_if (is_some now)

abbrev RisesBy : NetEndState → NetTake → Type 0
RisesBy s (GoesOn t opens new) = Rises s.session t.session
RisesBy s (Resets cause) = ⊤

same_rises : (session : Option NetSession) → Rises session session
same_rises session = omega arith

take_rises : (role : Role) (s : NetEndState) (memory : List ℕ) (take : NetTake) → TookWhat role s memory take → RisesBy s take
take_rises role s memory take given = grind (arith, same_rises)

-- THE END after its step
left_end : (e : End) (left : NetLeft) (u : NetLaneState) (event : NetEvent) → net_end e (record (with_left e left u) { wire = net_wire event u }) ≡ left.end
left_end e left u event = grind arith

end_left : (e : End) (u : NetLaneState) (packet : List ℕ) (opens : Bool) (t : NetLaneState) → (step : EndSteps e u (Took packet opens) t) → net_end e t ≡ step.left.end
end_left e u packet opens t step = ap (net_end e) step.is ∙ left_end e step.left u (Steps e (Took packet opens))

took_rises : (shape : NetShape) (e : End) (u : PortState) (l : PortLog) (packet : List ℕ) (opens : Bool) (t : NetLaneState) → Ready shape u l → EndSteps e u.lane (Took packet opens) t
    → Rises (net_end e u.lane).session (net_end e t).session
took_rises shape e u l packet opens t ready step =
    let s : NetEndState = net_end e u.lane in
    let acting = end_acts shape e u l ready (says_of (role_at e) s (seen_at e u.lane) (Takes packet) step.step.0).0.up in
    rw (end_left e u.lane packet opens t step) (take_rises (role_at e) s _ (GoesOn step.left.end opens step.left.own)
    (took_what (role_at e) s (transcript_of e l.transcript) _ packet (GoesOn step.left.end opens step.left.own) acting.ends step.step.1))

-- a guest's session opens with two messages to begin
opened_more : (b : Bool) (s : NetEndState) → b ≡ true → more_of (opened_by_put Initiator b s).session ≤ 2
opened_more b s opens = grind arith

sent_more : (u : NetLaneState) (packet : List ℕ) (opens : Bool) (t : NetLaneState) → EndSteps A u (Sent packet opens) t → opens ≡ true → more_of t.guest.session ≤ 2
sent_more u packet opens t step yes_one = grind (arith, opened_more)

-- AN EVENT
abbrev CoreRises : EndCore → EndCore → Type 0
CoreRises c t = t.more + 2 * one_if c.is_open ≤ c.more + 1 + 2 * one_if t.is_open

core_rises : (e : End) (u t : NetLaneState) → Rises (net_end e u).session (net_end e t).session → CoreRises (end_of e (lane_core u)) (end_of e (lane_core t))
core_rises e u t rises = grind arith

take_spends : (shape : NetShape) (s : PortState) (l : PortLog) (e : End) (packet : List ℕ) (opens : Bool) (t : PortState) → IsNetShape shape → PortCounts shape s l → s.lane.wire.forged ≡ false
    → PortStep s (OnLane (Steps e (Took packet opens))) t → TakeSpends (end_of e (port_core s)) (end_of e (port_core t))
take_spends shape s l e packet opens t is counts clean step =
    let event : NetEvent = Steps e (Took packet opens) in
    let one : 1 ≤ 5 = omega arith in
    let packets : packets_left (end_of e (port_core t)) ≤ packets_left (end_of e (port_core s)) =
    unforged_took shape.entries (port_offer Initiator shape.address shape.slots) (port_offer Responder shape.address shape.slots) (port_events counts.events) (port_core s) e packet opens (port_core t)
    (sizes_fit shape is) (offers_match shape is) one one (fresh_port_core shape counts.events s counts.run) clean
    (port_step_core s (OnLane event) t (port_fits_behind shape counts.events s counts.run) step) in
    let rises : CoreRises (end_of e (port_core s)) (end_of e (port_core t)) =
    subst (λ (c : LaneCore). CoreRises (end_of e c) (end_of e (port_core t))) (before_core event s)
    (core_rises e (before event s).lane t.lane (took_rises shape e (before event s) l packet opens t.lane (ready_before shape s l event is counts) step.1)) in
    omega (arith, packets, rises)

event_spends : (shape : NetShape) (s : PortState) (l : PortLog) (event : PortEvent) (t : PortState) → IsNetShape shape → PortCounts shape s l → s.lane.wire.forged ≡ false → PortStep s event t
    → Spends (port_core s) (port_event event) (port_core t)
event_spends shape s l (OnLane (Steps A (Took packet opens))) t is counts clean step = take_spends shape s l A packet opens t is counts clean step
event_spends shape s l (OnLane (Steps B (Took packet opens))) t is counts clean step = take_spends shape s l B packet opens t is counts clean step
event_spends shape s l (OnLane (Steps A (Sent packet opens))) t is counts clean step = sent_more s.lane packet opens t.lane step.1
event_spends shape s l _ t is counts clean step = tt

-- ALONG EVERY RUN
record KeptFew (shape : NetShape) (s : PortState) (l : PortLog) : Type 0 where
  counts : PortCounts shape s l
  few : s.lane.wire.forged ≡ false → FewFly s.lane.wire (port_core s).a (port_core s).b

known_at : (shape : NetShape) (s : PortState) (l : PortLog) → IsNetShape shape → PortCounts shape s l → Known (port_core s)
known_at shape s l is counts = record {
  transcript = transcript_behind (port_events counts.events);
  ends = stand_run shape.entries (port_offer Initiator shape.address shape.slots) (port_offer Responder shape.address shape.slots) (port_events counts.events) (port_core s) (sizes_fit shape is)
      (fresh_port_core shape counts.events s counts.run);
  a_rings = refl;
  b_rings = refl;
}

few_step : (shape : NetShape) → IsNetShape shape → (s : PortState) (l : PortLog) (event : PortEvent) (t : PortState) → KeptFew shape s l → PortStep s event t → KeptFew shape t (after l event)
few_step shape is s l event t had step = record {
  counts = counts_step shape is s l event t had.counts step;
  few = step_few (port_core s) (port_core t) (port_event event) (known_at shape s l is had.counts)
      (port_step_core s event t (port_fits_behind shape had.counts.events s had.counts.run) step)
      (λ clean. event_spends shape s l event t is had.counts clean step) had.few;
}

pub port_few : (shape : NetShape) (events : List PortEvent) (s : PortState) → IsNetShape shape → Run PortStep (fresh_port shape) events s → s.lane.wire.forged ≡ false
    → FewFly s.lane.wire (port_core s).a (port_core s).b
port_few shape events s is run =
    (run_lawful PortStep (λ (l : PortLog) (e : PortEvent). ⊤) after (KeptFew shape) (λ (x : PortState) (l : PortLog) (e : PortEvent) (y : PortState) had step. (tt, few_step shape is x l e y had step))
    (fresh_port shape) s (no_events shape) events (record { counts = port_counts shape [] (fresh_port shape) is refl; few = λ clean. omega arith }) run).1.few
