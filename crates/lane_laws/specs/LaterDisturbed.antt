-- The writes that a read may show though they were issued after it were disturbed with it: each request below `done + m` was pending at a
-- reset or a stop.
use Rattle.std.specs.Prelude.{◌≡◌, ◌+◌, ◌≤◌, ◌⊎◌, length}
use Rattle.lane_laws.specs.DiskLog.{DiskLog}
use Rattle.lane_models.specs.LaneState.{LaneState}

pub record LaterDisturbed (s : LaneState) (l : DiskLog) : Type 0 where
  pub later : (s.near.m ≡ 0) ⊎ (l.work.done + s.near.m ≤ l.work.disturbed_below)
  pub issued : l.work.disturbed_below ≤ length l.work.issued
