use Rattle.std.proofs.Common.{◌≡◌, ◌-◌, ◌<◌, ℕ, List, None, Some, nat_eq, set, ap, sym, subst, ◌∙◌}
use Rattle.std.specs.List.{IsDistinct}
use Rattle.std.specs.Map.{keys_of, lookup, remove_entry}
use Rattle.lru.specs.LruCache.{LruCache}
use Rattle.cached_store.specs.Kept.{KeepsNoneOf, KeptState}
use Rattle.cached_store.specs.Slots.{IsRoom}
use Rattle.cached_store.proofs.Keeping.{distinct_seen, removed, without_seen}
use Rattle.cached_store.proofs.Slots.{room_without}
use Rattle.cached_store.proofs.Valued.{missed}
use Rattle.cached_store.proofs.kept_blocks.KeptBlocks.forget_block.Goals as goal

pub invariant_of-self : goal.invariant_of-self
invariant_of-self c =
    let map = c.self.inside.map in
    let none : lookup (nat_eq c.args.number) map.entries ≡ None = sym c.pop.ensures.value ∙ c.in_default.is in
    subst (λ (t : LruCache ℕ ℕ). IsRoom c.self.inside.most c.self.inside.spare t.entries c.self.inside.free.items c.self.inside.bytes.items
    × (0 < c.self.inside.most → t.cap ≡ c.self.inside.most)) (sym c.pop.ensures.entries) (
      subst (λ (es : List (ℕ × ℕ)). IsRoom c.self.inside.most c.self.inside.spare es c.self.inside.free.items c.self.inside.bytes.items)
          (sym (missed (nat_eq c.args.number) map.entries none)) c.self.invariant.0,
      c.self.invariant.1,
    )

pub returns-in_default-clause-without : goal.returns-in_default-clause-without
returns-in_default-clause-without c =
    without_seen c.self.inside.bytes.items c.self.inside.map c.pop.new.self c.args.number c.args.self.now.kept c.pop.ensures.entries
    (ap (λ (s : KeptState). s.kept) c.self.view_is)

pub returns-in_default-clause-gone : goal.returns-in_default-clause-gone
returns-in_default-clause-gone c =
    let is = ap (λ (s : KeptState). s.kept) c.self.view_is in
    subst (KeepsNoneOf c.args.number c.args.self.now.kept) (sym (returns-in_default-clause-without c))
    (removed c.args.number c.args.self.now.kept (subst (λ (es : List (ℕ × List ℕ)). IsDistinct nat_eq (keys_of es)) is
    (distinct_seen c.self.inside.bytes.items c.self.inside.map.entries c.len.ensures.valid.0)))

pub invariant_of-self-2 : goal.invariant_of-self-2
invariant_of-self-2 c =
    let map = c.self.inside.map in
    let most = c.self.inside.most in
    let free = c.self.inside.free.items in
    let slot = c.in-Some.slot in
    let found : lookup (nat_eq c.args.number) map.entries ≡ Some slot = sym c.pop.ensures.value ∙ c.in-Some.is in
    subst (λ (t : LruCache ℕ ℕ). IsRoom most c.self.inside.spare t.entries (set free (most - c.len.result) slot) c.self.inside.bytes.items
    × (0 < most → t.cap ≡ most)) (sym c.pop.ensures.entries) (
      subst (λ (n : ℕ). IsRoom most c.self.inside.spare (remove_entry (nat_eq c.args.number) map.entries) (set free (most - n) slot) c.self.inside.bytes.items)
          (sym c.len.ensures.len) (room_without most c.self.inside.spare map.entries free c.self.inside.bytes.items c.self.invariant.0 (nat_eq c.args.number) slot found),
      c.self.invariant.1,
    )

pub returns-clause-without : goal.returns-clause-without
returns-clause-without c =
    without_seen c.self.inside.bytes.items c.self.inside.map c.pop.new.self c.args.number c.args.self.now.kept c.pop.ensures.entries
    (ap (λ (s : KeptState). s.kept) c.self.view_is)

pub returns-clause-gone : goal.returns-clause-gone
returns-clause-gone c =
    let is = ap (λ (s : KeptState). s.kept) c.self.view_is in
    subst (KeepsNoneOf c.args.number c.args.self.now.kept) (sym (returns-clause-without c))
    (removed c.args.number c.args.self.now.kept (subst (λ (es : List (ℕ × List ℕ)). IsDistinct nat_eq (keys_of es)) is
    (distinct_seen c.self.inside.bytes.items c.self.inside.map.entries c.len.ensures.valid.0)))
