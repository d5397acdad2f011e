-- What remains to be done on all lanes together, and which lanes nobody forged.
use Rattle.std.specs.Prelude.{◌≡◌, ℕ, false, List}
use Rattle.lane_kinds.specs.Lanes.{sum_of}
use Rattle.lane_models.specs.LaneState.{LaneState}
use Rattle.lane_laws.specs.Remaining.{remaining}

abbrev pub IsUnforged : LaneState → Type 0
IsUnforged s = s.wire.forged ≡ false

abbrev pub remaining_on : List LaneState → ℕ
remaining_on = sum_of remaining
