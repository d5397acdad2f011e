use Rattle.std.proofs.Common.{ℕ, suc, ◌∷◌, [], length, ap, sym, subst, ◌∙◌, add-one, arith, length-append}
use Rattle.cached_store.specs.Slots.{AreSlots}
use Rattle.cached_store.proofs.Slots.{one_slot_more}
use Rattle.cached_store.proofs.kept_blocks.numbers_below.Goals as goal

pub loop-number-preserved : goal.loop-number-preserved
loop-number-preserved c =
    let i = c.loop-number.number in
    let before = c.loop-number.numbers.items in
    let many = c.loop-number.invariant.many in
    let is = c.in_ok-push.ensures.items in
    record {
      slots = subst (λ (n : ℕ). AreSlots n c.push.new.self.items) (sym (add-one i))
          (subst (AreSlots (suc i)) (sym is) (one_slot_more i before c.loop-number.invariant.slots));
      many = ap length is ∙ length-append before (i ∷ []) ∙ omega (arith, many);
    }
