use Rattle.vnet_switch.specs.Offering.{OffersBelow}
use Rattle.vnet_switch.proofs.forwarding.offer.Given as goal

abbrev pub invariant-loop-k : goal.invariant-loop-k
invariant-loop-k l = OffersBelow l.k l.fn.ports l.set l.key l.offered l.ports
