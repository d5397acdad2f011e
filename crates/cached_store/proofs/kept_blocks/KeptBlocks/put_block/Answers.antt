use Rattle.std.proofs.Common.{◌≡◌, ◌-◌, ◌<◌, ℕ, List, None, nat_eq, length, take, drop, get_or, ◌++◌, ap, sym, subst, ◌∙◌, inl, inr, arith}
use Rattle.std.specs.List.{IsDistinct}
use Rattle.std.specs.Map.{keys_of}
use Rattle.std.proofs.lemmas.List.{take_at}
use Rattle.lru.specs.LruCache.{LruCache, put_entries}
use Rattle.cached_store.specs.Kept.{KeptState, kept_block, put_first}
use Rattle.cached_store.specs.Slots.{IsRoom, kept_of}
use Rattle.cached_store.proofs.Keeping.{bytes_written, distinct_seen, may_put_keeps, none_seen, put_seen}
use Rattle.cached_store.proofs.Slots.{room_behind, room_more, room_put, some_left, spare_within}
use Rattle.cached_store.proofs.kept_blocks.KeptBlocks.put_block.Goals as goal
use Rattle.cached_store.proofs.kept_blocks.KeptBlocks.put_block.Goals.{in-Some, in-None}

pub returns-in_default-clause-put : goal.returns-in_default-clause-put
returns-in_default-clause-put c =
    let is = ap (λ (s : KeptState). s.kept) c.self.view_is in
    inr (
      subst (λ (old : List (ℕ × List ℕ)). kept_block c.args.number old ≡ None) is
          (none_seen c.self.inside.bytes.items c.self.inside.map.entries c.args.number c.in_default.ensures.succeeds),
      ap (λ (t : LruCache ℕ ℕ). kept_of c.self.inside.bytes.items t.entries) c.in_default.ensures.err ∙ is,
    )

pub returns-in_default-clause-fresh : goal.returns-in_default-clause-fresh
returns-in_default-clause-fresh c =
    may_put_keeps c.args.self.now.most c.args.number c.args.bytes.now c.args.self.now.kept (kept_of c.self.inside.bytes.items c.push.new.self.entries)
    (subst (λ (es : List (ℕ × List ℕ)). IsDistinct nat_eq (keys_of es)) (ap (λ (s : KeptState). s.kept) c.self.view_is)
    (distinct_seen c.self.inside.bytes.items c.self.inside.map.entries c.len.ensures.valid.0))
    (returns-in_default-clause-put c)

pub fill-requires-clause-within : goal.fill-requires-clause-within
fill-requires-clause-within c =
    let within = spare_within c.self.inside.most c.self.inside.spare c.self.inside.map.entries c.self.inside.free.items c.self.inside.bytes.items c.self.invariant.0 in
    let same = ap length c.deref_mut.ensures.value in
    omega (arith, within, same)

pub overflow_sub-left-in-None : goal.overflow_sub-left-in-None
overflow_sub-left-in-None c =
    let apart = c.if-self-eq0.false in
    let some : 0 < c.self.inside.most = omega (arith, apart) in
    let left : length c.self.inside.map.entries < c.self.inside.most =
    some_left c.self.inside.most c.args.number c.self.inside.spare c.self.inside.map c.self.inside.free.items c.self.inside.bytes.items c.self.inside.bytes.items
    c.len.ensures.valid (c.self.invariant.1 some) c.self.invariant.0 (λ i. length c.self.inside.bytes.items) (sym c.in-None.is ∙ c.in-Ok.ensures.old) in
    let len = c.len.ensures.len in
    omega (arith, left, len)

pub invariant_of-self-2 : goal.invariant_of-self-2
invariant_of-self-2 c =
    let inside = c.self.inside in
    let map = inside.map in
    let number = c.args.number in
    let free = inside.free.items in
    let room : List ℕ = c.fill.new.room in
    let bytes : List ℕ = take inside.bytes.len (room ++ drop (length room) inside.bytes.items) in
    let filled : length room ≡ inside.bytes.len = c.fill.auto.room ∙ c.deref_mut.ensures.len in
    let value : length c.deref_mut.result.now ≡ length inside.bytes.items = ap length c.deref_mut.ensures.value in
    let long : length bytes ≡ length inside.bytes.items = ap length (take_at room (drop (length room) inside.bytes.items) inside.bytes.len filled) ∙ c.fill.auto.room ∙ value in
    let apart = c.if-self-eq0.false in
    let cap = c.self.invariant.1 (omega (arith, apart)) in
    room_behind inside.most number inside.spare c.match-gone.self map c.push.new.self free bytes c.in-Ok.ensures.entries c.self.invariant.1
    (elim c.match-gone.branch [
      | in-Some w ↦ subst (λ (x : ℕ). IsRoom inside.most x (put_entries nat_eq map number inside.spare) free bytes) (sym w.self-is)
          (room_put inside.most number inside.spare map free inside.bytes.items bytes c.len.ensures.valid cap c.self.invariant.0 long
          (w.in-Some.field-0-0, w.in-Some.slot) (sym w.in-Some.is ∙ c.in-Ok.ensures.old))
      | in-None w ↦ subst (λ (x : ℕ). IsRoom inside.most x (put_entries nat_eq map number inside.spare) free bytes) (sym w.self-is)
          (room_more inside.most number inside.spare map free inside.bytes.items bytes c.len.ensures.valid cap c.self.invariant.0 long
          w.index.result.now (sym w.in-None.is ∙ c.in-Ok.ensures.old)
          (w.index.ensures ∙ ap (λ (n : ℕ). get_or free (inside.most - n - 1) w.index.result.now) c.len.ensures.len))
    ])

pub returns-clause-put : goal.returns-clause-put
returns-clause-put c =
    let inside = c.self.inside in
    let number = c.args.number in
    let kept_is = ap (λ (s : KeptState). s.kept) c.self.view_is in
    let most_is = ap (λ (s : KeptState). s.most) c.self.view_is in
    let apart = c.if-self-eq0.false in
    let cap = c.self.invariant.1 (omega (arith, apart)) in
    inl (ap (λ (l : List ℕ). kept_of l c.push.new.self.entries)
    (bytes_written inside.bytes.len inside.spare c.args.bytes.now inside.bytes.items c.deref_mut.result.now c.fill.new.room c.fill.ensures c.deref_mut.ensures.value
    (c.fill.auto.room ∙ c.deref_mut.ensures.len))
    ∙ put_seen inside.map c.push.new.self number inside.spare inside.most c.args.bytes.now inside.free.items inside.bytes.items
    c.len.ensures.valid cap c.in-Ok.ensures.entries c.requires.long c.self.invariant.0
    ∙ ap (λ (most : ℕ). put_first most number c.args.bytes.now (kept_of inside.bytes.items inside.map.entries)) most_is
    ∙ ap (λ (old : List (ℕ × List ℕ)). put_first c.args.self.now.most number c.args.bytes.now old) kept_is)

pub returns-clause-fresh : goal.returns-clause-fresh
returns-clause-fresh c =
    let inside = c.self.inside in
    may_put_keeps c.args.self.now.most c.args.number c.args.bytes.now c.args.self.now.kept
    (kept_of (take inside.bytes.len (c.fill.new.room ++ drop (length c.fill.new.room) inside.bytes.items)) c.push.new.self.entries)
    (subst (λ (es : List (ℕ × List ℕ)). IsDistinct nat_eq (keys_of es)) (ap (λ (s : KeptState). s.kept) c.self.view_is)
    (distinct_seen inside.bytes.items inside.map.entries c.len.ensures.valid.0))
    (returns-clause-put c)
