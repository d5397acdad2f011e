-- What a completion is of: the slot of the first request that isn't done, which the server ended with the status of the completion.
use Rattle.std.specs.Prelude.{◌≡◌, ℕ, ◌-◌, ◌%◌, ◌≤◌, Some, slice_get}
use Rattle.lane_laws.specs.DiskLog.{DiskLog}
use Rattle.lane_laws.specs.RingLog.{Done}
use Rattle.lane_laws.specs.WorkLog.{ClientCounts}
use Rattle.lane_models.specs.LaneState.{LaneState}

pub record CompletesSlot (s : LaneState) (l : DiskLog) (id status : ℕ) (k : ClientCounts) : Type 0 where
  pub open_is : l.work.client ≡ Some k
  pub based : k.base ≤ l.work.done
  pub done_is : slice_get l.ring ((l.work.done - k.base) % l.shape.slots) ≡ Some (Done id status)
  pub number : id ≡ l.work.done
