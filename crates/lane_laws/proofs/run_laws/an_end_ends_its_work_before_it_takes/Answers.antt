use Rattle.lane_laws.proofs.WorkRuns.{order_lawful}
use Rattle.lane_laws.proofs.run_laws.an_end_ends_its_work_before_it_takes.Goals as goal

pub returns : goal.returns
returns c = order_lawful
