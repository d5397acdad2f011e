-- Which states a port's lane can be in: those to which some events lead from a fresh one.
use Rattle.std.specs.Prelude.{List}
use Rattle.runs.specs.Run.{Run}
use Rattle.lane_models.specs.NetEvent.{NetEvent}
use Rattle.lane_models.specs.NetLaneState.{IsNetShape, NetLaneState, NetShape, fresh_net}
use Rattle.lane_models.specs.NetLaneStep.{NetLaneStep}

pub record NetReached (s : NetLaneState) : Type 0 where
  pub shape : NetShape
  pub sound : IsNetShape shape
  pub events : List NetEvent
  pub run : Run NetLaneStep (fresh_net shape) events s
