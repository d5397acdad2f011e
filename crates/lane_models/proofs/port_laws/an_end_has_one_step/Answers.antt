use Rattle.lane_models.proofs.OneStep.{step_once}
use Rattle.lane_models.proofs.port_laws.an_end_has_one_step.Goals as goal

pub returns : goal.returns
returns c = step_once
