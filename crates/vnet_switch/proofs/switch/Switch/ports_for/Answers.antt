use Rattle.std.proofs.Common.{ℕ, List, subst}
use Rattle.vnet_switch.proofs.Showing.{one_port}
use Rattle.vnet_switch.specs.Forward.{GetsFrame}
use Rattle.vnet_switch.specs.PortSet.{IsSetOf}
use Rattle.vnet_switch.specs.PortView.{PortView}
use Rattle.vnet_switch.proofs.switch.Switch.ports_for.Goals as goal

pub returns-clause-one : goal.returns-clause-one
returns-clause-one c =
    one_port c.self.inside.ports.items c.self.inside.frames c.args.dst.now c.args.from c.ports_for.result
    c.self.invariant
    (subst (λ (ports : List (PortView ℕ)). IsSetOf c.ports_for.result (GetsFrame ports c.args.dst.now c.args.from))
    c.deref.ensures.value c.ports_for.ensures)
