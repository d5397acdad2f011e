use Rattle.std.proofs.Common.{◌≡◌}
use Rattle.cached_store.specs.Kept.{KeepsOfRange, MayPutRange}
use Rattle.cached_store.proofs.kept_blocks.KeptBlocks.put_all.Given as goal

abbrev pub invariant-loop-i : goal.invariant-loop-i
invariant-loop-i l = record {
  put : MayPutRange l.fn.self.most l.first l.i l.fn.bytes l.fn.self.kept l.self.kept;
  keeps : KeepsOfRange l.first l.i l.fn.bytes l.fn.self.kept l.self.kept;
  most : l.self.most ≡ l.fn.self.most;
}
