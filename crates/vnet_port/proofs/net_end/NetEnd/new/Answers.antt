use Rattle.std.proofs.Common.{sym, subst}
use Rattle.lane_models.specs.NetEndState.{NetEndState}
use Rattle.vnet_port.proofs.Standing.{fresh_stands}
use Rattle.vnet_port.specs.Standing.{Stands}
use Rattle.vnet_port.proofs.net_end.NetEnd.new.Goals as goal

pub invariant_of-result : goal.invariant_of-result
invariant_of-result c =
    subst (λ (s : NetEndState). Stands s) (sym c.in_ok-end.ensures)
    (fresh_stands c.args.role c.args.address c.args.slots c.requires.some_slots c.requires.few_slots)
