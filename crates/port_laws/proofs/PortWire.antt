-- What an event of a port leaves of its wire: forging isn't undone, no step of an end forges or loses anything, and a calm one leaves the wire
-- as it was. And what a frame that the switch puts into the out queue adds to what remains.
use Rattle.std.proofs.Common.{◌≡◌, ℕ, ◌+◌, ◌≤◌, Bool, false, Option, List, ap, ◌∙◌, arith, length-append, sym}
use Rattle.ldc_link.specs.declared.phase.Role.TheVariants.{Responder}
use Rattle.ldc_queue.specs.declared.end.ChannelState.{ChannelState}
use Rattle.ldc_queue.specs.declared.end.ChannelState.TheVariants.{Up}
use Rattle.ldc_queue.specs.declared.end.End.{End}
use Rattle.ldc_queue.specs.declared.end.End.TheVariants.{A}
use Rattle.lane_models.specs.WireLog.{WireLog, lossy_behind}
use Rattle.lane_models.specs.NetEndState.{NetEndState, NetSession}
use Rattle.lane_models.specs.NetEndStep.{NetAnswer}
use Rattle.lane_models.specs.NetEvent.{NetEvent, Steps, Ticked, on_wire}
use Rattle.lane_models.specs.NetLaneStep.{moved_on}
use Rattle.lane_models.specs.PortState.{OnLane, PortState, PortStep, Receives, before, PortEvent}
use Rattle.port_laws.specs.Remaining.{end_left, remaining}
use Rattle.port_laws.specs.RemainingSteps.{IsCalm}
use Rattle.port_laws.proofs.PortCounts.{before_wire, wire_event}
use Rattle.port_laws.proofs.RingEvents.{acts_up}
use Rattle.port_laws.proofs.RingRuns.{was_clean}

-- THE WIRE after an event of its lane
pub port_wire : (s : PortState) (event : NetEvent) (t : PortState) → PortStep s (OnLane event) t → t.lane.wire ≡ moved_on s.lane.wire (on_wire event)
port_wire s event t step = wire_event (before event s).lane event t.lane step.1 ∙ ap (λ (w : WireLog). moved_on w (on_wire event)) (before_wire event s)

-- FORGING
pub was_unforged : (s : PortState) (event : PortEvent) (t : PortState) → PortStep s event t → t.lane.wire.forged ≡ false → s.lane.wire.forged ≡ false
was_unforged s (OnLane event) t step clean = was_clean s.lane.wire event (ap (λ (w : WireLog). w.forged) (sym (port_wire s event t step)) ∙ clean)
was_unforged s (Receives frame) t step clean = sym (ap (λ (x : PortState). x.lane.wire.forged) step.2) ∙ clean

answer_forges : (w : WireLog) (e : End) (answer : NetAnswer) → (moved_on w (on_wire (Steps e answer))).forged ≡ w.forged
answer_forges w e answer = grind arith

pub step_unforged : (s : PortState) (e : End) (answer : NetAnswer) (t : PortState) → PortStep s (OnLane (Steps e answer)) t → t.lane.wire.forged ≡ s.lane.wire.forged
step_unforged s e answer t step = ap (λ (w : WireLog). w.forged) (port_wire s (Steps e answer) t step) ∙ answer_forges s.lane.wire e answer

pub tick_unforged : (s : PortState) (queued lost : ℕ) (t : PortState) → PortStep s (OnLane (Ticked queued lost)) t → t.lane.wire.forged ≡ s.lane.wire.forged
tick_unforged s queued lost t step = ap (λ (w : WireLog). w.forged) (port_wire s (Ticked queued lost) t step)

-- LOSING
stays_whole : (x : ChannelState) (lossy : Bool) → lossy ≡ false → lossy_behind x lossy ≡ false
stays_whole x lossy whole = grind arith

answer_loses : (w : WireLog) (e : End) (answer : NetAnswer) → w.lossy ≡ false → (moved_on w (on_wire (Steps e answer))).lossy ≡ false
answer_loses w e answer whole = grind (arith, stays_whole)

pub step_lossless : (s : PortState) (e : End) (answer : NetAnswer) (t : PortState) → PortStep s (OnLane (Steps e answer)) t → s.lane.wire.lossy ≡ false → t.lane.wire.lossy ≡ false
step_lossless s e answer t step whole = ap (λ (w : WireLog). w.lossy) (port_wire s (Steps e answer) t step) ∙ answer_loses s.lane.wire e answer whole

-- a tick of a guest that is up leaves nothing lost
pub tick_lossless : (s : PortState) (queued lost : ℕ) (t : PortState) → PortStep s (OnLane (Ticked queued lost)) t → s.lane.wire.wire.end_a ≡ Up → t.lane.wire.lossy ≡ false
tick_lossless s queued lost t step up = grind (arith, port_wire)

-- A CALM STEP leaves the wire, and the guest that makes it is up
pub calm_wire : (s : PortState) (e : End) (answer : NetAnswer) (t : PortState) → PortStep s (OnLane (Steps e answer)) t → IsCalm answer → t.lane.wire ≡ s.lane.wire
calm_wire s e answer t step calm = grind (arith, port_wire)

pub calm_up : (s : PortState) (answer : NetAnswer) (t : PortState) → PortStep s (OnLane (Steps A answer)) t → IsCalm answer → s.lane.wire.wire.end_a ≡ Up
calm_up s answer t step calm = grind (arith, acts_up)

-- ANOTHER PORT'S FRAME adds eight
session_more : (memory : List ℕ) (s : NetEndState) (more : ℕ) (session : Option NetSession) → s.session ≡ session → end_left Up Responder (more + 1) memory s ≤ end_left Up Responder more memory s + 8
session_more memory s more session is = grind arith

pub port_received : (s : PortState) (frame : List ℕ) (t : PortState) → PortStep s (Receives frame) t → remaining t ≤ remaining s + 8
port_received s frame t step = grind (arith, length-append, session_more)
