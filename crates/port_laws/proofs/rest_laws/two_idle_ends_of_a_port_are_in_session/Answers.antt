use Rattle.port_laws.proofs.RuleTwoIdle.{port_two_idle}
use Rattle.port_laws.proofs.rest_laws.two_idle_ends_of_a_port_are_in_session.Goals as goal

pub returns : goal.returns
returns c = port_two_idle
