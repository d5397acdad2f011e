use Rattle.lane_models.proofs.FirstRun.{first_run}
use Rattle.lane_models.proofs.disk_laws.first_rounds_are_steps.Goals as goal

pub returns : goal.returns
returns c = first_run
