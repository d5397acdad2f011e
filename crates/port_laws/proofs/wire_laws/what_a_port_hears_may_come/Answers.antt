use Rattle.port_laws.proofs.WireLaws.{port_hears}
use Rattle.port_laws.proofs.wire_laws.what_a_port_hears_may_come.Goals as goal

pub returns : goal.returns
returns c = port_hears
