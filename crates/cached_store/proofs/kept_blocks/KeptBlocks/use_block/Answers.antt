use Rattle.std.proofs.Common.{◌≡◌, ◌+◌, ◌-◌, ◌*◌, ◌<◌, ℕ, List, Some, nat_eq, length, take, drop, ap, sym, subst, ◌∙◌, arith}
use Rattle.lru.specs.LruCache.{LruCache}
use Rattle.cached_store.specs.Kept.{KeptState}
use Rattle.cached_store.specs.Slots.{IsRoom}
use Rattle.cached_store.proofs.Keeping.{found_seen, missed_seen, used_seen}
use Rattle.cached_store.proofs.Slots.{room_used, slot_within}
use Rattle.cached_store.proofs.kept_blocks.KeptBlocks.use_block.Goals as goal

pub invariant_of-self : goal.invariant_of-self
invariant_of-self c =
    absurd (missed_seen c.self.inside.bytes.items c.self.inside.map.entries c.args.number c.args.self.now.kept c.in_default.ensures.value
    (ap (λ (s : KeptState). s.kept) c.self.view_is) c.requires.kept)

pub returns-in_default-clause-bytes : goal.returns-in_default-clause-bytes
returns-in_default-clause-bytes c =
    absurd (missed_seen c.self.inside.bytes.items c.self.inside.map.entries c.args.number c.args.self.now.kept c.in_default.ensures.value
    (ap (λ (s : KeptState). s.kept) c.self.view_is) c.requires.kept)

pub returns-in_default-clause-used : goal.returns-in_default-clause-used
returns-in_default-clause-used c =
    used_seen c.self.inside.bytes.items c.self.inside.map c.get.follows.lender-at-none c.args.number c.args.self.now.kept c.get.follows.holds-at-none
    (ap (λ (s : KeptState). s.kept) c.self.view_is)

pub overflow_mul-at : goal.overflow_mul-at
overflow_mul-at c =
    let within = slot_within c.self.inside.most c.self.inside.spare c.self.inside.map.entries c.self.inside.free.items c.self.inside.bytes.items c.self.invariant.0
    (nat_eq c.args.number) c.in-Some.slot.now (sym c.in-Some.ensures.value) in
    let long = c.self.inside.bytes.small in
    omega (arith, within, long)

pub overflow_add-at : goal.overflow_add-at
overflow_add-at c =
    let within = slot_within c.self.inside.most c.self.inside.spare c.self.inside.map.entries c.self.inside.free.items c.self.inside.bytes.items c.self.invariant.0
    (nat_eq c.args.number) c.in-Some.slot.now (sym c.in-Some.ensures.value) in
    let long = c.self.inside.bytes.small in
    omega (arith, within, long)

pub slice_bounds-copy_from_slice-end : goal.slice_bounds-copy_from_slice-end
slice_bounds-copy_from_slice-end c =
    let within = slot_within c.self.inside.most c.self.inside.spare c.self.inside.map.entries c.self.inside.free.items c.self.inside.bytes.items c.self.invariant.0
    (nat_eq c.args.number) c.in-Some.slot.now (sym c.in-Some.ensures.value) in
    let same = ap length c.deref.ensures.value in
    omega (arith, within, same)

pub invariant_of-self-2 : goal.invariant_of-self-2
invariant_of-self-2 c =
    subst (λ (t : LruCache ℕ ℕ). IsRoom c.self.inside.most c.self.inside.spare t.entries c.self.inside.free.items c.self.inside.bytes.items
    × (0 < c.self.inside.most → t.cap ≡ c.self.inside.most)) (sym c.get.follows.holds-at-none) (
      room_used c.self.inside.most c.self.inside.spare c.self.inside.map.entries c.self.inside.free.items c.self.inside.bytes.items c.self.invariant.0
          (nat_eq c.args.number),
      c.self.invariant.1,
    )

pub returns-clause-bytes : goal.returns-clause-bytes
returns-clause-bytes c =
    let slot = c.in-Some.slot.now in
    let less : 512 * slot + 512 - 512 * slot ≡ 512 = omega arith in
    found_seen c.self.inside.bytes.items c.self.inside.map.entries c.args.number slot c.args.self.now.kept (sym c.in-Some.ensures.value)
    (ap (λ (s : KeptState). s.kept) c.self.view_is)
    ∙ ap (λ (l : List ℕ). Some l) (sym (c.copy_from_slice.ensures.after
    ∙ ap (λ (n : ℕ). take n (drop (512 * slot) c.deref.result.now)) less
    ∙ ap (λ (l : List ℕ). take 512 (drop (512 * slot) l)) c.deref.ensures.value))

pub returns-clause-used : goal.returns-clause-used
returns-clause-used c =
    used_seen c.self.inside.bytes.items c.self.inside.map c.get.follows.lender-at-none c.args.number c.args.self.now.kept c.get.follows.holds-at-none
    (ap (λ (s : KeptState). s.kept) c.self.view_is)
