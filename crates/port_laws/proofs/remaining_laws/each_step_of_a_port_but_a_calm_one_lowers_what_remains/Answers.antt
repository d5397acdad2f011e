use Rattle.port_laws.proofs.RemainingResets.{port_lowers}
use Rattle.port_laws.proofs.remaining_laws.each_step_of_a_port_but_a_calm_one_lowers_what_remains.Goals as goal

pub returns : goal.returns
returns c = port_lowers
