use Rattle.lane_laws.proofs.LaneChannel.{heard_lawful}
use Rattle.lane_laws.proofs.invariant_laws.what_is_heard_may_come.Goals as goal

pub returns : goal.returns
returns c = heard_lawful
