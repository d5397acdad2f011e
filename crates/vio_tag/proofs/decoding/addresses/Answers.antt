use Rattle.std.proofs.Common.{arith}
use Rattle.vio_tag.proofs.Addresses.{addresses_by_place}
use Rattle.vio_tag.proofs.decoding.addresses.Goals as goal

pub returns : goal.returns
returns c =
    addresses_by_place c.loop-i.addresses 10 7 c.args.bytes.now c.loop-i.invariant.long
    (λ k d below. c.loop-i.invariant.read k d (omega arith))
