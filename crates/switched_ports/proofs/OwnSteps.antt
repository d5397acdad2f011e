-- A step of a port's end, in an entry of all: the cause for which it resets itself is its own, and the frame that it
-- takes has its length.
use Rattle.std.proofs.Common.{◌≡◌, ℕ, List, Option, Some, slice_get, arith}
use Rattle.lane_models.specs.WireEvent.{ByStep, giver}
use Rattle.lane_kinds.proofs.Places.{get_within}
use Rattle.lane_kinds.specs.Lanes.{EachOf, EntryOf}
use Rattle.ldc_queue.specs.declared.end.End.{End}
use Rattle.ldc_queue.specs.declared.end.End.TheVariants.{A, B}
use Rattle.net_lane.specs.Stepping.{net_answer}
use Rattle.net_lane.specs.net_out.NetOut.{NetOut}
use Rattle.net_lane.specs.net_out.NetOut.TheVariants as out
use Rattle.lane_models.proofs.OwnResets.{net_resets_own}
use Rattle.lane_models.specs.NetEndRule.{port_rule}
use Rattle.lane_models.specs.NetEndStep.{Frame, NetAnswer}
use Rattle.lane_models.specs.NetEvent.{Steps}
use Rattle.lane_models.specs.NetLaneState.{NetLaneState, memory_of, net_end, reach_of, role_at, seen_at}
use Rattle.lane_models.specs.PortState.{OnLane, PortState, PortStep, before}
use Rattle.switch_laws.proofs.Forwarding.{leaves_others}
use Rattle.switch_laws.specs.Events.{SwitchStep}
use Rattle.switch_laws.specs.Ports.{ports as kind}
use Rattle.switch_laws.specs.Reached.{IsReached}
use Rattle.vnet_switch.specs.declared.forwarding.Switched.{Switched as Sets}
use Rattle.switched_ports.specs.Events.{ResetsOwn, step_event}
use Rattle.switched_ports.specs.HubSteps.{TakesFrame}
use Rattle.switched_ports.proofs.Asides.{each_at}
use Rattle.switched_ports.proofs.Switching.{takes_frame}

-- WHAT A STEP IS for the port itself, whether its frame is switched or not
own_step : (e : End) (s : PortState) (answer : NetAnswer) (sets : Option Sets) (t : PortState)
    → SwitchStep s (step_event e answer sets) t → PortStep s (OnLane (Steps e answer)) t
own_step B s (Frame frame) (Some sets) t step = step
own_step A s answer sets t step = step.1
own_step B s answer sets t step = step.1

record StepAt (k : ℕ) (w : List PortState) (e : End) (answer : NetAnswer) : Type 0 where
  from : PortState
  behind : PortState
  there : slice_get w k ≡ Some from
  step : PortStep from (OnLane (Steps e answer)) behind

-- ITS RESETS are for causes of its own
own_reset : (e : End) (s : PortState) (answer : NetOut) (last : List ℕ) (t : PortState)
    → PortStep s (OnLane (Steps e (net_answer answer last))) t → ResetsOwn answer
own_reset e s (out.Reset cause packet lost) last t step =
    let lane : NetLaneState = (before (Steps e (net_answer (out.Reset cause packet lost) last)) s).lane in
    net_resets_own (role_at e) (port_rule (role_at e) (net_end e lane) (seen_at e lane)) (net_end e lane)
    (memory_of e lane) (reach_of e lane) cause packet step.1.step.0
own_reset e s answer last t step = tt

module _ (k : ℕ) (w : List PortState) (e : End) (answer : NetOut) (last : List ℕ) (sets : Option Sets)
    (v : List PortState) (entry : EntryOf kind k w (step_event e (net_answer answer last) sets) v) where
  step_there : StepAt k w e (net_answer answer last)
  step_there =
      let others = leaves_others k w (step_event e (net_answer answer last) sets) v entry.step in
      let one = get_within w k entry.within in
      let two = get_within v k (omega (arith, entry.within, others.many)) in
      record {
        from = one.0;
        behind = two.0;
        there = one.1;
        step = own_step e one.0 (net_answer answer last) sets two.0 (others.own one.0 two.0 one.1 two.1);
      }

  pub entry_resets : ResetsOwn answer
  entry_resets = own_reset e step_there.from answer last step_there.behind step_there.step

  pub entry_takes : EachOf IsReached w → TakesFrame answer last
  entry_takes reached =
      takes_frame e step_there.from step_there.behind answer last
      (each_at IsReached w k step_there.from reached step_there.there) step_there.step
