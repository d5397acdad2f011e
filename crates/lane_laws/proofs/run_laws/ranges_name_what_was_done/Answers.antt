use Rattle.lane_laws.proofs.WorkRuns.{ranges_lawful}
use Rattle.lane_laws.proofs.run_laws.ranges_name_what_was_done.Goals as goal

pub returns : goal.returns
returns c = ranges_lawful
