use Rattle.lane_laws.proofs.EveryRun.{every_run}
use Rattle.lane_laws.proofs.run_laws.every_run_of_a_lane_is_lawful.Goals as goal

pub returns : goal.returns
returns c = every_run
