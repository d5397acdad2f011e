use Rattle.std.proofs.Common.{refl}
use Rattle.vnet_switch.proofs.Bits.{or_port}
use Rattle.vnet_switch.proofs.port_set.with_port.Goals as goal

pub returns : goal.returns
returns c = or_port c.args.set c.args.port _ c.requires refl
