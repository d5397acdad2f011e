use Rattle.lane_laws.proofs.LaneBound.{remains_most, whole_most}
use Rattle.lane_laws.proofs.WorstLane.{most_is_reached}
use Rattle.lane_laws.proofs.invariant_laws.little_remains_where_nobody_forged.Goals as goal

pub returns : goal.returns
returns c = record { whole = whole_most; lossy = remains_most; reached = most_is_reached }
