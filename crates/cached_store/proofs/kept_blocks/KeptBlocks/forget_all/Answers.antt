use Rattle.std.proofs.Common.{◌≡◌, ◌+◌, ℕ, ap, sym, subst, ◌∙◌, add-one, arith}
use Rattle.cached_store.specs.Kept.{KeepsNoneOfRange, without, without_range}
use Rattle.cached_store.proofs.Keeping.{keeps_none_more}
use Rattle.cached_store.proofs.kept_blocks.KeptBlocks.forget_all.Goals as goal

pub loop-i-preserved : goal.loop-i-preserved
loop-i-preserved c =
    let first = c.args.first in
    let i = c.loop-i.i in
    let old = c.args.self.now.kept in
    let new = c.forget_block.new.self.kept in
    record {
      without = c.forget_block.ensures.without ∙ ap (without (first + i)) c.loop-i.invariant.without
          ∙ ap (λ (n : ℕ). without_range first n old) (sym (add-one i));
      gone = subst (λ (n : ℕ). KeepsNoneOfRange first n old new) (sym (add-one i))
          (keeps_none_more first i old c.loop-i.self.kept new c.loop-i.invariant.gone c.forget_block.ensures.gone);
      most = c.forget_block.ensures.most ∙ c.loop-i.invariant.most;
    }

pub returns-clause-gone : goal.returns-clause-gone
returns-clause-gone c =
    let all : c.loop-i.i ≡ c.args.count = omega arith in
    subst (λ (n : ℕ). KeepsNoneOfRange c.args.first n c.args.self.now.kept c.loop-i.self.kept) all c.loop-i.invariant.gone
