-- What the switch's end of a port was told of groups in its session.
use Rattle.std.specs.Prelude.{ℕ, List, [], Option, Some, None}
use Rattle.lane_models.specs.EndLog.{SessionLog}

abbrev pub told_in : Option SessionLog → List (List ℕ)
told_in None = []
told_in (Some v) = v.groups
