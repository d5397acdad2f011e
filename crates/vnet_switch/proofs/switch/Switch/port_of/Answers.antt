use Rattle.std.proofs.Common.{ℕ, List, IfNone, IfSome, subst, sym}
use Rattle.vnet_switch.proofs.Calls.{only_port}
use Rattle.vnet_switch.proofs.Showing.{address_shown}
use Rattle.vnet_switch.specs.Forward.{HasAddress}
use Rattle.vnet_switch.specs.PortView.{PortView, SwitchView}
use Rattle.vnet_switch.proofs.switch.Switch.port_of.Goals as goal

pub returns-clause-only : goal.returns-clause-only
returns-clause-only c = λ k has.
    let inside : HasAddress c.self.inside.ports.items c.args.address.now k =
    (address_shown c.self.inside.frames.slots c.self.inside.ports.items c.args.address.now k).1
    (subst (λ (s : SwitchView). HasAddress s.ports c.args.address.now k) (sym c.self.view_is) has) in
    only_port c.self.inside.ports.items c.self.inside.frames c.args.address.now c.port_of.result c.self.invariant
    (subst (λ (ports : List (PortView ℕ)). IfSome c.port_of.result (HasAddress ports c.args.address.now))
    c.deref.ensures.value c.port_of.ensures.found)
    (subst (λ (ports : List (PortView ℕ)). IfNone c.port_of.result
    ((j : ℕ) → ¬ (HasAddress ports c.args.address.now j))) c.deref.ensures.value c.port_of.ensures.none)
    k inside
