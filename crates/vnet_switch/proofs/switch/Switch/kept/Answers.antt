use Rattle.std.proofs.Common.{◌≤◌, subst}
use Rattle.vnet_switch.proofs.Calls.{kept_shown}
use Rattle.vnet_switch.specs.PortView.{SwitchView}
use Rattle.vnet_switch.specs.Queues.{waiting_in_all}
use Rattle.vnet_switch.proofs.switch.Switch.kept.Goals as goal

pub returns-clause-named : goal.returns-clause-named
returns-clause-named c =
    subst (λ (s : SwitchView). s.kept ≤ waiting_in_all s.ports) c.self.view_is
    (kept_shown c.self.inside.ports.items c.self.inside.frames c.self.invariant)
