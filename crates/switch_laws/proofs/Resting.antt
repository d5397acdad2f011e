-- A calm turn finishes a port that nobody forged and on which nothing was lost; and a tick leaves nothing lost.
use Rattle.std.proofs.Common.{◌≡◌, true, false, List, [], ◌∷◌, length, subst, ap, ◌∙◌}
use Rattle.std.specs.Prelude.{not}
use Rattle.lane_kinds.proofs.Sums.{and_left, and_right}
use Rattle.lane_kinds.specs.LaneCounts.{TickWaits}
use Rattle.lane_kinds.specs.Lanes.{CalmTurn, ComesToRest, all_calm}
use Rattle.ldc_queue.specs.declared.end.ChannelState.TheVariants.{Up}
use Rattle.ldc_queue.specs.declared.end.End.{End}
use Rattle.ldc_queue.specs.declared.end.End.TheVariants.{A, B}
use Rattle.port_laws.proofs.CalmTurns.{calm_turn}
use Rattle.port_laws.proofs.PortWire.{calm_up, calm_wire, tick_lossless}
use Rattle.port_laws.specs.NetEndState.{unseen}
use Rattle.port_laws.specs.NetEndStep.{Blocked, Idle, NetAnswer}
use Rattle.port_laws.specs.NetEvent.{Steps}
use Rattle.port_laws.specs.NetLaneState.{NetLaneState}
use Rattle.port_laws.specs.NetLaneStep.{is_finished}
use Rattle.port_laws.specs.PortState.{OnLane, PortState, PortStep}
use Rattle.port_laws.specs.RemainingSteps.{IsCalm}
use Rattle.port_laws.specs.WireLog.{WireLog}
use Rattle.switch_laws.specs.Events.{OnPort, SwitchEvent, SwitchStep}
use Rattle.switch_laws.specs.Ports.{IsStepOf, is_calm, ports, tick, waits_on}
use Rattle.switch_laws.specs.Reached.{IsLossless, IsReached, IsUnforged}
use Rattle.switch_laws.proofs.Steps.{given_lossless, lossless_step, reached_step, was_unforged}
use Rattle.switch_laws.proofs.PortTurns.{calm_gives, turn_steps}

-- A CALM STEP of an end
record Calmly (e : End) (s : PortState) (event : SwitchEvent) (t : PortState) : Type 0 where
  answer : NetAnswer
  calm : IsCalm answer
  step : PortStep s (OnLane (Steps e answer)) t

calm_step : (e : End) (s : PortState) (event : SwitchEvent) (t : PortState) → IsStepOf e event → is_calm event ≡ true → SwitchStep s event t → Calmly e s event t
calm_step e s (OnPort (OnLane (Steps d Blocked))) t own calm step =
    record { answer = Blocked; calm = tt; step = subst (λ (x : End). PortStep s (OnLane (Steps x Blocked)) t) own step.1 }
calm_step e s (OnPort (OnLane (Steps d Idle))) t own calm step =
    record { answer = Idle; calm = tt; step = subst (λ (x : End). PortStep s (OnLane (Steps x Idle)) t) own step.1 }
calm_step e s _ t own calm step = absurd (cc calm)

-- A CALM TURN: a step of the guest's end, and one of the switch's
pub record TwoCalm (s t : PortState) : Type 0 where
  pub between : PortState
  pub one : NetAnswer
  pub two : NetAnswer
  pub one_calm : IsCalm one
  pub two_calm : IsCalm two
  pub first : PortStep s (OnLane (Steps A one)) between
  pub second : PortStep between (OnLane (Steps B two)) t

pub two_calm : (s : PortState) (events : List SwitchEvent) (t : PortState) → CalmTurn ports s events t → TwoCalm s t
two_calm s (one ∷ two ∷ []) t turn =
    let calm = turn.calm in
    let m : PortState = turn.run.0 in
    let first : Calmly A s one m = calm_step A s one m turn.of_turn.0 (and_left (is_calm one) (all_calm ports (two ∷ [])) calm) turn.run.1 in
    let last : SwitchStep m two t = subst (SwitchStep m two) turn.run.2.2 turn.run.2.1 in
    let second : Calmly B m two t = calm_step B m two t turn.of_turn.1 (and_left (is_calm two) true (and_right (is_calm one) (all_calm ports (two ∷ [])) calm)) last in
    record { between = m; one = first.answer; two = second.answer; one_calm = first.calm; two_calm = second.calm; first = first.step; second = second.step }
two_calm s [] t turn = absurd turn.of_turn
two_calm s (one ∷ []) t turn = absurd turn.of_turn
two_calm s (one ∷ two ∷ three ∷ events) t turn = absurd turn.of_turn

pub turn_wire : (s t : PortState) → TwoCalm s t → t.lane.wire ≡ s.lane.wire
turn_wire s t turn = calm_wire turn.between B turn.two t turn.second turn.two_calm ∙ calm_wire s A turn.one turn.between turn.first turn.one_calm

pub turn_up : (s t : PortState) → TwoCalm s t → t.lane.wire.wire.end_a ≡ Up
turn_up s t turn = ap (λ (w : WireLog). w.wire.end_a) (turn_wire s t turn) ∙ calm_up s turn.one turn.between turn.first turn.one_calm

pub finishes : (s : PortState) (events : List SwitchEvent) (t : PortState) → IsReached s → IsUnforged s → IsLossless s → CalmTurn ports s events t → waits_on t ≡ false
finishes s events t at clean whole turn =
    let two = two_calm s events t turn in
    ap not (calm_turn at.shape at.events s two.between t two.one two.two at.sound at.run clean whole two.one_calm two.two_calm two.first two.second)

-- A TICK
tick_whole : (s : PortState) (events : List SwitchEvent) (t u : PortState) → CalmTurn ports s events t → SwitchStep t (tick t) u → IsLossless u
tick_whole s events t u turn step = tick_lossless t (length t.queue) (unseen t.lane.guest.session) u step.1 (turn_up s t (two_calm s events t turn))

pub port_rests : ComesToRest ports IsReached IsUnforged IsLossless
port_rests = record {
  turn_steps = turn_steps;
  reached = reached_step_of;
  was_unforged = λ s event t step own clean. was_unforged s event t step clean;
  lossless = lossless_step;
  given_lossless = given_lossless;
  calm_gives = calm_gives;
  tick_lossless = λ s events t u at turn step. tick_whole s events t u turn step;
  finishes = finishes;
}
  where
    reached_step_of : (s : PortState) (event : SwitchEvent) (t : PortState) → IsReached s → SwitchStep s event t → IsReached t
    reached_step_of s event t at step = reached_step s event t at step

-- a port waits behind its tick, as its guest isn't in session
pub tick_waits : TickWaits ports IsReached
tick_waits s t at waits step =
    let is = step.1.1.1.1 in
    ap (λ (x : NetLaneState). not (is_finished x (length t.queue))) is
