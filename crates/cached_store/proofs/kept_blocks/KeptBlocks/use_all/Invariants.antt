use Rattle.std.proofs.Common.{◌≡◌}
use Rattle.cached_store.specs.Kept.{used_range}
use Rattle.cached_store.proofs.Using.{FilledTo}
use Rattle.cached_store.proofs.kept_blocks.KeptBlocks.use_all.Given as goal

abbrev pub invariant-loop-i : goal.invariant-loop-i
invariant-loop-i l = record {
  used : l.self.kept ≡ used_range l.first l.i l.fn.self.kept;
  most : l.self.most ≡ l.fn.self.most;
  bytes : FilledTo l.first l.i l.fn.self.kept l.fn.out l.out;
}
