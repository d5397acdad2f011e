use Rattle.std.proofs.Common.{◌<◌, ℕ}
use Rattle.vnet_switch.specs.Forward.{HasAddress}
use Rattle.vnet_switch.proofs.forwarding.port_of.Given as goal

abbrev pub invariant-loop-place : goal.invariant-loop-place
invariant-loop-place l = (k : ℕ) → k < l.place → ¬ (HasAddress l.ports l.address k)
