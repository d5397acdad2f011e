use Rattle.port_laws.proofs.WireLaws.{port_says}
use Rattle.port_laws.proofs.wire_laws.what_a_port_says_is_cut_and_numbered.Goals as goal

pub returns : goal.returns
returns c = port_says
