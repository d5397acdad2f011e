-- What a step of an end is for the ports of a switch, by its answer.
use Rattle.std.specs.Prelude.{◌≡◌, Bool, true, false, List, Option, Some, ⊤}
use Rattle.lane_models.specs.WireEvent.{ByStep, giver}
use Rattle.ldc_queue.specs.declared.end.End.{End}
use Rattle.ldc_queue.specs.declared.end.End.TheVariants.{B}
use Rattle.net_lane.specs.net_out.NetOut.{NetOut}
use Rattle.net_lane.specs.net_out.NetOut.TheVariants as out
use Rattle.port_laws.specs.NetEndStep.{Frame, NetAnswer}
use Rattle.port_laws.specs.NetEvent.{Steps}
use Rattle.port_laws.specs.PortState.{OnLane}
use Rattle.switch_laws.specs.Events.{OnPort, SwitchEvent, Switched}
use Rattle.vnet_switch.specs.declared.forwarding.Switched.{Switched as Sets}

-- a frame that the switch's end took goes to one set of ports, and misses the other
abbrev pub step_event : End → NetAnswer → Option Sets → SwitchEvent
step_event B (Frame frame) (Some sets) = Switched frame sets.out sets.full
step_event e answer sets = OnPort (OnLane (Steps e answer))

abbrev pub is_frame : NetOut → Bool
is_frame (out.Frame len) = true
is_frame _ = false

abbrev pub is_switched : End → NetOut → Bool
is_switched B answer = is_frame answer
is_switched e answer = false

-- a step resets its end for a cause that a step gives: neither because a script asked, nor for a tick
abbrev pub ResetsOwn : NetOut → Type 0
ResetsOwn (out.Reset cause packet lost) = giver cause ≡ ByStep
ResetsOwn _ = ⊤
