use Rattle.std.proofs.Common.{sym, subst}
use Rattle.lane_models.specs.NetEndState.{NetEndState}
use Rattle.vnet_port.proofs.Standing.{joined_stands}
use Rattle.vnet_port.specs.Standing.{Stands}
use Rattle.vnet_port.proofs.net_end.NetEnd.reset.Goals as goal

pub invariant_of-self : goal.invariant_of-self
invariant_of-self c =
    subst (λ (s : NetEndState). Stands s) (sym c.join.ensures.state) (joined_stands c.self.inside.end c.self.invariant)
