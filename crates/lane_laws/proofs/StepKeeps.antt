-- A step of an end neither forges nor loses a packet, and neither stops nor starts the server.
use Rattle.std.proofs.Common.{◌≡◌, ap, arith}
use Rattle.ldc_queue.specs.declared.end.End.{End}
use Rattle.lane_models.specs.DiskEvent.{DiskEvent}
use Rattle.lane_models.specs.LaneState.{LaneState}
use Rattle.lane_models.specs.LaneStep.{LaneStep}
use Rattle.lane_laws.specs.DiskLog.{after_wire}
use Rattle.lane_laws.proofs.LaneViews.{after_stopped, lane_view}
use Rattle.lane_laws.specs.CalmEnds.{IsStep, StepKeeps}

-- EACH STEP, by the wire after it
moved_keeps : (s : LaneState) (e : End) (event : DiskEvent) (t : LaneState) → t.wire ≡ after_wire s.wire event → t.stopped ≡ after_stopped s.stopped event → IsStep e event → StepKeeps s t
moved_keeps s e event t wire stopped own = grind arith

pub step_keeps : (s : LaneState) (e : End) (event : DiskEvent) (t : LaneState) → LaneStep s event t → IsStep e event → StepKeeps s t
step_keeps s e event t step own =
    let view = lane_view s event t step in moved_keeps s e event t (ap (λ (x : LaneState). x.wire) view.is) (ap (λ (x : LaneState). x.stopped) view.is) own
