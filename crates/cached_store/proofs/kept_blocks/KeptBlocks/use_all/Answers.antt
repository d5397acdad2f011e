use Rattle.std.proofs.Common.{◌≡◌, ◌+◌, ◌-◌, ◌*◌, ◌/◌, ◌≤◌, ℕ, List, length, Some, ap, sym, subst, ◌∙◌, add-one, arith}
use Rattle.std.specs.Prelude.{IsSome}
use borrow.Rule.Slice.PartMut.{put_mid}
use Rattle.cached_store.specs.Kept.{kept_block, used, used_range}
use Rattle.cached_store.proofs.Using.{FilledTo, filled_more, kept_behind}
use Rattle.cached_store.proofs.kept_blocks.KeptBlocks.use_all.Goals as goal

pub use_block-requires-clause-kept : goal.use_block-requires-clause-kept
use_block-requires-clause-kept c =
    subst (λ (es : List (ℕ × List ℕ)). IsSome (kept_block (c.args.first + c.loop-i.i) es)) (sym c.loop-i.invariant.used)
    (kept_behind c.args.first (length c.args.out.now / 512) c.loop-i.i c.args.self.now.kept c.requires.kept c.loop-i-test.true)

pub loop-i-preserved : goal.loop-i-preserved
loop-i-preserved c =
    let first = c.args.first in
    let i = c.loop-i.i in
    let old = c.args.self.now.kept in
    let out = c.args.out.now in
    let room : 512 * i + 512 ≤ length out = omega arith in
    let long : length c.use_block.new.out ≡ 512 = omega arith in
    record {
      used = c.use_block.ensures.used ∙ ap (used (first + i)) c.loop-i.invariant.used ∙ ap (λ (n : ℕ). used_range first n old) (sym (add-one i));
      most = c.use_block.ensures.most ∙ c.loop-i.invariant.most;
      bytes = subst (λ (n : ℕ). FilledTo first n old out (put_mid (512 * i) (512 * i + 512 - 512 * i) c.loop-i.out c.use_block.new.out)) (sym (add-one i))
          (filled_more first i old out c.loop-i.out c.use_block.new.out c.loop-i.invariant.bytes room
          (subst (λ (es : List (ℕ × List ℕ)). kept_block (first + i) es ≡ Some c.use_block.new.out) c.loop-i.invariant.used c.use_block.ensures.bytes) long);
    }
