use Rattle.std.proofs.Common.{◌≡◌, true}
use Rattle.cached_store.specs.Kept.{all_kept}
use Rattle.cached_store.proofs.kept_blocks.KeptBlocks.holds.Given as goal

abbrev pub invariant-loop-i : goal.invariant-loop-i
invariant-loop-i l = all_kept l.first l.i l.self.kept ≡ true
