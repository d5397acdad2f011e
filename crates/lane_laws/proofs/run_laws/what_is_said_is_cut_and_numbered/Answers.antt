use Rattle.lane_laws.proofs.LaneChannel.{said_lawful}
use Rattle.lane_laws.proofs.run_laws.what_is_said_is_cut_and_numbered.Goals as goal

pub returns : goal.returns
returns c = said_lawful
