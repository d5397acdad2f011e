use Rattle.lane_laws.proofs.StatusRuns.{unforged_lawful}
use Rattle.lane_laws.proofs.run_laws.work_is_done_as_it_was_asked.Goals as goal

pub returns : goal.returns
returns c = unforged_lawful
