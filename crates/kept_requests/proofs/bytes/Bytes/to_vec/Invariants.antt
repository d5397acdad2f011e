use Rattle.std.proofs.Common.{◌≡◌, ◌++◌, drop}
use Rattle.kept_requests.specs.Packed.{AreKept, unpacked}
use Rattle.kept_requests.proofs.bytes.Bytes.to_vec.Given as goal

abbrev pub invariant-loop-n : goal.invariant-loop-n
invariant-loop-n l = record {
  are : AreKept (drop l.n-index l.lengths) l.kept;
  items : l.bytes.items ++ unpacked (drop l.n-index l.lengths) l.kept ≡ l.fn.self.items;
}
