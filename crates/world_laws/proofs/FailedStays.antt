-- A lane none of whose calls of the store failed stays so by each event but a call that fails.
use Rattle.std.proofs.Common.{◌≡◌, Bool, true, false, arith}
use Rattle.std.specs.Prelude.{◌||◌}
use Rattle.lane_models.specs.DiskEvent.{DiskEvent}
use Rattle.lane_models.specs.LaneState.{LaneState}
use Rattle.lane_models.specs.LaneStep.{LaneStep}
use Rattle.lane_laws.proofs.FailedRuns.{failed_after}
use Rattle.lane_laws.specs.DiskLog.{after_failed}
use Rattle.world_laws.specs.Failures.{is_failed_store}

neither : (a b : Bool) → a ≡ false → b ≡ false → (a || b) ≡ false
neither false b first second = second
neither true b first second = absurd (cc first)

stays_well : (b : Bool) (event : DiskEvent) → is_failed_store event ≡ false → b ≡ false → after_failed b event ≡ false
stays_well b event well before = grind arith

pub failed_stays : (s : LaneState) (event : DiskEvent) (t : LaneState) → LaneStep s event t → is_failed_store event ≡ false → s.failed ≡ false → t.failed ≡ false
failed_stays s event t step well before = grind (arith, failed_after)
