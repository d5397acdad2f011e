use Rattle.port_laws.proofs.AlwaysSteps.{port_steps, reached_steps}
use Rattle.port_laws.proofs.core_laws.an_end_of_a_port_always_has_a_step.Goals as goal

pub returns : goal.returns
returns c = record { lane = reached_steps; queued = port_steps }
