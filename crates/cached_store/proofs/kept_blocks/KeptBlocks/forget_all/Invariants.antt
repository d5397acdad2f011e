use Rattle.std.proofs.Common.{◌≡◌}
use Rattle.cached_store.specs.Kept.{KeepsNoneOfRange, without_range}
use Rattle.cached_store.proofs.kept_blocks.KeptBlocks.forget_all.Given as goal

abbrev pub invariant-loop-i : goal.invariant-loop-i
invariant-loop-i l = record {
  without : l.self.kept ≡ without_range l.first l.i l.fn.self.kept;
  gone : KeepsNoneOfRange l.first l.i l.fn.self.kept l.self.kept;
  most : l.self.most ≡ l.fn.self.most;
}
