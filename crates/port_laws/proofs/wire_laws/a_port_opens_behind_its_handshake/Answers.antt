use Rattle.port_laws.proofs.WireLaws.{port_opens}
use Rattle.port_laws.proofs.wire_laws.a_port_opens_behind_its_handshake.Goals as goal

pub returns : goal.returns
returns c = port_opens
