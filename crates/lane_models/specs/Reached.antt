-- Which states a lane can be in: those to which some events lead from a fresh one.
use Rattle.std.specs.Prelude.{List}
use Rattle.runs.specs.Run.{Run}
use Rattle.lane_models.specs.DiskEvent.{DiskEvent}
use Rattle.lane_models.specs.LaneState.{IsShape, LaneState, Shape, fresh}
use Rattle.lane_models.specs.LaneStep.{LaneStep}

pub record IsReached (s : LaneState) : Type 0 where
  pub shape : Shape
  pub sound : IsShape shape
  pub events : List DiskEvent
  pub run : Run LaneStep (fresh shape) events s
