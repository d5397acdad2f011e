use Rattle.lane_laws.proofs.WorkRuns.{numbers_lawful}
use Rattle.lane_laws.proofs.run_laws.work_has_its_numbers.Goals as goal

pub returns : goal.returns
returns c = numbers_lawful
