use Rattle.lane_models.proofs.SomeStep.{always_step}
use Rattle.lane_models.proofs.port_laws.an_end_always_has_a_step.Goals as goal

pub returns : goal.returns
returns c = always_step
