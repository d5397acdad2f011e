-- Along every run no frames are lost as an end is configured, by its own step or by a reset.
use Rattle.std.proofs.Common.{List, arith}
use Rattle.std.specs.Prelude.{⊤}
use Rattle.runs.specs.Lawful.{Lawful, run_lawful}
use Rattle.runs.specs.Run.{Run}
use Rattle.lane_models.specs.DiskEvent.{DiskEvent}
use Rattle.lane_laws.specs.DiskLog.{DiskLog, after, nothing_yet}
use Rattle.lane_models.specs.LaneState.{IsShape, LaneState, Shape, fresh}
use Rattle.lane_models.specs.LaneStep.{LaneStep}
use Rattle.lane_laws.specs.Laws.{LostAt}

-- BY A STEP of the end
-- BY A CALL of the lane, and by any event of the wire
lost_at : (s : LaneState) (l : DiskLog) (event : DiskEvent) (t : LaneState) → LaneStep s event t → LostAt l event
lost_at s l event t step = grind arith

-- ALONG EVERY RUN
pub lost_lawful : (shape : Shape) (events : List DiskEvent) (s : LaneState) → IsShape shape → Run LaneStep (fresh shape) events s
    → Lawful LostAt after (nothing_yet shape) events
lost_lawful shape events s sound run =
    (run_lawful LaneStep LostAt after (λ (x : LaneState) (l : DiskLog). ⊤) (λ x l event y known step. (lost_at x l event y step, tt))
    (fresh shape) s (nothing_yet shape) events tt run).0
