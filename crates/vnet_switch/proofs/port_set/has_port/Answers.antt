use Rattle.vnet_switch.proofs.Bits.{shifted}
use Rattle.vnet_switch.proofs.port_set.has_port.Goals as goal

pub returns : goal.returns
returns c = shifted c.args.set c.args.port
