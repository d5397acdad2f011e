use Rattle.lane_laws.proofs.WorkRuns.{idle_lawful}
use Rattle.lane_laws.proofs.run_laws.an_idle_end_has_done_all.Goals as goal

pub returns : goal.returns
returns c = idle_lawful
