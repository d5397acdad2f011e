-- How many frames an end of a port says are lost, by the events of the port: at its joins and resets.
use Rattle.std.specs.Prelude.{ℕ, ◌+◌, List, [], ◌∷◌}
use Rattle.ldc_queue.specs.declared.end.End.{End}
use Rattle.ldc_queue.specs.declared.end.End.TheVariants.{A, B}
use Rattle.lane_models.specs.NetEndStep.{Joined, NetAnswer, Reset}
use Rattle.lane_models.specs.NetEvent.{Asked, Steps, Ticked}
use Rattle.lane_models.specs.PortState.{OnLane, PortEvent}

abbrev pub lost_by : NetAnswer → ℕ
lost_by (Joined lost) = lost
lost_by (Reset cause packet lost) = lost
lost_by _ = 0

abbrev pub lost_at : End → PortEvent → ℕ
lost_at A (OnLane (Steps A answer)) = lost_by answer
lost_at A (OnLane (Asked A lost)) = lost
lost_at A (OnLane (Ticked queued lost)) = lost
lost_at B (OnLane (Steps B answer)) = lost_by answer
lost_at B (OnLane (Asked B lost)) = lost
lost_at e _ = 0

abbrev pub frames_lost : End → List PortEvent → ℕ
frames_lost e [] = 0
frames_lost e (event ∷ events) = lost_at e event + frames_lost e events
