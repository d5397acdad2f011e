use Rattle.port_laws.proofs.RuleIdle.{port_idle}
use Rattle.port_laws.proofs.rest_laws.an_idle_end_of_a_port_has_nothing_to_do.Goals as goal

pub returns : goal.returns
returns c = port_idle
