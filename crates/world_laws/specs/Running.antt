-- Lanes whose servers run.
use Rattle.std.specs.Prelude.{◌≡◌, false}
use Rattle.lane_models.specs.LaneState.{LaneState}

abbrev pub IsRunning : LaneState → Type 0
IsRunning s = s.stopped ≡ false
