use Rattle.vnet_port.proofs.Standing.{gives_stands}
use Rattle.vnet_port.specs.Calls.{given}
use Rattle.vnet_port.proofs.net_end.NetEnd.send.Goals as goal

pub invariant_of-self : goal.invariant_of-self
invariant_of-self c =
    gives_stands c.self.inside.end c.send.new.self (given c.send.result c.args.frame.now) c.self.invariant c.send.ensures
