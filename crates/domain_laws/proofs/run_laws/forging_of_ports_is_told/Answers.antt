use Rattle.domain_laws.proofs.ForgedPorts.{port_told}
use Rattle.domain_laws.proofs.run_laws.forging_of_ports_is_told.Goals as goal

pub returns : goal.returns
returns c = port_told
