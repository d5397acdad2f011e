use Rattle.std.proofs.Common.{◌≡◌, ℕ, ◌+◌, true, false, List, ap, sym, subst, ◌∙◌, add-one}
use Rattle.std.specs.Prelude.{is_some}
use Rattle.cached_store.specs.Kept.{KeptState, all_kept, kept_block}
use Rattle.cached_store.proofs.Using.{all_more, none_kept}
use Rattle.cached_store.proofs.Keeping.{some_seen}
use Rattle.cached_store.proofs.kept_blocks.KeptBlocks.holds.Goals as goal

pub loop-i-preserved : goal.loop-i-preserved
loop-i-preserved c =
    let number = c.args.first + c.loop-i.i in
    subst (λ (n : ℕ). all_kept c.args.first n c.args.self.now.kept ≡ true) (sym (add-one c.loop-i.i))
    (all_more c.args.first c.loop-i.i c.args.self.now.kept c.loop-i.invariant
    (subst (λ (es : List (ℕ × List ℕ)). is_some (kept_block number es) ≡ true) (ap (λ (s : KeptState). s.kept) c.self.view_is)
    (some_seen c.self.inside.bytes.items c.self.inside.map.entries number ∙ sym c.contains.ensures ∙ c.if-not-contains.false)))

pub returns-then-not-contains : goal.returns-then-not-contains
returns-then-not-contains c =
    let number = c.args.first + c.loop-i.i in
    none_kept c.args.first c.args.count c.loop-i.i c.args.self.now.kept c.loop-i-test.true
    (subst (λ (es : List (ℕ × List ℕ)). is_some (kept_block number es) ≡ false) (ap (λ (s : KeptState). s.kept) c.self.view_is)
    (some_seen c.self.inside.bytes.items c.self.inside.map.entries number ∙ sym c.contains.ensures ∙ c.if-not-contains.true))
