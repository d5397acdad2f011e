use Rattle.vnet_port.proofs.Standing.{joins_stands}
use Rattle.vnet_port.specs.Calls.{joining}
use Rattle.vnet_port.proofs.net_end.NetEnd.join_group.Goals as goal

pub invariant_of-self : goal.invariant_of-self
invariant_of-self c =
    joins_stands c.self.inside.end c.join_group.new.self (joining c.join_group.result c.args.address) c.self.invariant c.join_group.ensures
