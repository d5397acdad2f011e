use Rattle.std.proofs.Common.{◌<◌}
use Rattle.vnet_switch.specs.Forward.{GetsFrame}
use Rattle.vnet_switch.specs.PortSet.{IsSetOf}
use Rattle.vnet_switch.proofs.forwarding.ports_for.Given as goal

abbrev pub invariant-loop-place : goal.invariant-loop-place
invariant-loop-place l = IsSetOf l.set (λ k. (k < l.place) × GetsFrame l.ports l.destination l.from k)
