use Rattle.std.proofs.Common.{◌≡◌, ◌+◌, ◌-◌, ◌*◌, ◌/◌, ℕ, length, take, drop, sym, subst, ◌∙◌, add-one, arith}
use Rattle.cached_store.specs.Kept.{KeepsOf, KeepsOfRange, MayPut, MayPutRange}
use Rattle.cached_store.proofs.Keeping.{keeps_more, may_put_more}
use Rattle.cached_store.proofs.kept_blocks.KeptBlocks.put_all.Goals as goal

pub loop-i-preserved : goal.loop-i-preserved
loop-i-preserved c =
    let first = c.args.first in
    let i = c.loop-i.i in
    let bytes = c.args.bytes.now in
    let most = c.args.self.now.most in
    let old = c.args.self.now.kept in
    let mid = c.loop-i.self.kept in
    let new = c.put_block.new.self.kept in
    let less : 512 * i + 512 - 512 * i ≡ 512 = omega arith in
    record {
      put = subst (λ (n : ℕ). MayPutRange most first n bytes old new) (sym (add-one i))
          (may_put_more most first i bytes old mid new c.loop-i.invariant.put
          (subst (λ (m : ℕ). MayPut m (first + i) (take 512 (drop (512 * i) bytes)) mid new) c.loop-i.invariant.most
          (subst (λ (k : ℕ). MayPut c.loop-i.self.most (first + i) (take k (drop (512 * i) bytes)) mid new) less c.put_block.ensures.put)));
      keeps = subst (λ (n : ℕ). KeepsOfRange first n bytes old new) (sym (add-one i))
          (keeps_more first i bytes old mid new c.loop-i.invariant.keeps
          (subst (λ (k : ℕ). KeepsOf (first + i) (take k (drop (512 * i) bytes)) mid new) less c.put_block.ensures.fresh));
      most = c.put_block.ensures.most ∙ c.loop-i.invariant.most;
    }

pub returns-clause-keeps : goal.returns-clause-keeps
returns-clause-keeps c =
    let all : c.loop-i.i ≡ length c.args.bytes.now / 512 = omega arith in
    subst (λ (n : ℕ). KeepsOfRange c.args.first n c.args.bytes.now c.args.self.now.kept c.loop-i.self.kept) all c.loop-i.invariant.keeps
