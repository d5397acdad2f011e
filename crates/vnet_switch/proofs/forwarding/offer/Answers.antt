use Rattle.std.proofs.Common.{slice_index_or, arith}
use Rattle.std.proofs.lemmas.Option.{slice_get-get_or}
use Rattle.vnet_switch.proofs.Offers.{offers_more}
use Rattle.vnet_switch.proofs.forwarding.offer.Goals as goal

pub loop-k-preserved : goal.loop-k-preserved
loop-k-preserved c =
    offers_more c.loop-k.k c.args.ports.now c.loop-k.ports c.args.set c.args.key c.loop-k.offered c.offer_to.new.offered
    (slice_index_or c.loop-k.ports c.loop-k.k c.index-ports-k.result) c.offer_to.new.port c.has_port-belongs.result
    (slice_get-get_or c.loop-k.ports c.loop-k.k c.index-ports-k.result
    (omega (arith, c.loop-k-test.true, c.loop-k.auto.ports)))
    c.has_port-belongs.ensures c.loop-k.invariant c.offer_to.ensures
