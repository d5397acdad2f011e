-- The kept blocks stay those of the content: by a use, by a read, by a write, and by a write that fails.
use Rattle.std.proofs.Common.{◌≡◌, ◌≢◌, ℕ, zero, suc, ◌+◌, ◌-◌, ◌*◌, ◌<◌, ◌≤◌, true, nat_eq, List, [], ◌++◌, length, take, drop, Contains, Option, Some, None, IfSome, refl, sym, ap, ◌∙◌, subst, inl, inr, arith}
use Rattle.std.specs.Prelude.{is_some}
use Rattle.std.specs.Option.{unwrap_or}
use Rattle.std.proofs.lemmas.Bool.{and_parts, cases_lt, eqb-true}
use Rattle.std.proofs.lemmas.List.{drop-drop}
use Rattle.lru.proofs.CallerLemmas.{Contains-lookup, Contains-promoted}
use Rattle.vio_bytes.specs.Place.{IsOutside, put_at}
use Rattle.vio_bytes.specs.Range.{range_at}
use Rattle.vio_bytes.proofs.Ranges.{range_at-add, range_at-put_at_inside, range_at-put_at_outside, range_at-range_at, range_at-take}
use Rattle.vio_io.specs.Stores.{KeepsOutside, ReadsRange, WritesRange}
use Rattle.cached_store.specs.Kept.{Agrees, KeepsNoneOfRange, KeepsOfRange, all_kept, bytes_kept, kept_block, used_range}

-- A USE
contained : (first n : ℕ) (kept : List (ℕ × List ℕ)) (e : ℕ × List ℕ) → Contains (used_range first n kept) e → Contains kept e
contained first zero kept e c = c
contained first (suc n) kept e c = contained first n kept e (Contains-promoted (nat_eq (first + n)) (used_range first n kept) e c)

pub agrees_used : (told : Option (List ℕ)) (first n : ℕ) (kept : List (ℕ × List ℕ)) → Agrees told kept → Agrees told (used_range first n kept)
agrees_used None first n kept agrees = tt
agrees_used (Some content) first n kept agrees = λ e c. agrees e (contained first n kept e c)

-- THE BYTES of kept blocks are those of their range
one_block : (content : List ℕ) (number : ℕ) (kept : List (ℕ × List ℕ)) (o : Option (List ℕ)) → Agrees (Some content) kept → kept_block number kept ≡ o → is_some o ≡ true
    → unwrap_or o [] ≡ range_at (512 * number) 512 content
one_block content number kept None agrees is some = absurd (cc)
one_block content number kept (Some bytes) agrees is some =
    let there = Contains-lookup (nat_eq number) kept bytes is in
    let key : number ≡ there.0 = eqb-true number there.0 there.2 in
    agrees (there.0, bytes) there.1 ∙ ap (λ (k : ℕ). range_at (512 * k) 512 content) (sym key)

all_blocks : (content : List ℕ) (first n : ℕ) (kept : List (ℕ × List ℕ)) → Agrees (Some content) kept → all_kept first n kept ≡ true
    → bytes_kept first n kept ≡ range_at (512 * first) (512 * n) content
all_blocks content first zero kept agrees all = refl
all_blocks content first (suc n) kept agrees all =
    let parts = and_parts (all_kept first n kept) (is_some (kept_block (first + n) kept)) all in
    let place : 512 * (first + n) ≡ 512 * first + 512 * n = omega arith in
    let next : 512 * n + 512 ≡ 512 * suc n = omega arith in
    ap (λ (l : List ℕ). l ++ unwrap_or (kept_block (first + n) kept) []) (all_blocks content first n kept agrees parts.0)
    ∙ ap (λ (l : List ℕ). range_at (512 * first) (512 * n) content ++ l)
    (one_block content (first + n) kept (kept_block (first + n) kept) agrees refl parts.1 ∙ ap (λ (p : ℕ). range_at p 512 content) place)
    ∙ sym (range_at-add (512 * first) (512 * n) 512 content)
    ∙ ap (λ (m : ℕ). range_at (512 * first) m content) next

pub reads_kept : (told : Option (List ℕ)) (at first n : ℕ) (kept : List (ℕ × List ℕ)) (bytes : List ℕ) → Agrees told kept → all_kept first n kept ≡ true
    → bytes ≡ bytes_kept first n kept → at ≡ 512 * first → length bytes ≡ 512 * n → ReadsRange told at bytes
reads_kept None at first n kept bytes agrees all is place long = tt
reads_kept (Some content) at first n kept bytes agrees all is place long =
    is ∙ all_blocks content first n kept agrees all
    ∙ ap (λ (p : ℕ). range_at p (512 * n) content) (sym place) ∙ ap (λ (m : ℕ). range_at at m content) (sym long)

-- A READ
pub agrees_read : (told : Option (List ℕ)) (at first n : ℕ) (bytes : List ℕ) (old new : List (ℕ × List ℕ)) → Agrees told old → ReadsRange told at bytes
    → at ≡ 512 * first → length bytes ≡ 512 * n → KeepsOfRange first n bytes old new → Agrees told new
agrees_read None at first n bytes old new agrees reads place long keeps = tt
agrees_read (Some content) at first n bytes old new agrees reads place long keeps = λ e c. elim (keeps e c) [
  | inl on ↦
      let below : on.0 < n = on.1 in
      let key : e.0 ≡ first + on.0 = on.2 in
      let here : at + 512 * on.0 ≡ 512 * e.0 = omega (arith, key, place) in
      on.3 ∙ ap (λ (l : List ℕ). range_at (512 * on.0) 512 l) reads
      ∙ range_at-range_at (512 * on.0) 512 at (length bytes) content (omega (arith, below, long))
      ∙ ap (λ (p : ℕ). range_at p 512 content) here
  | inr off ↦ agrees e off.1
]

-- what is none of a row of blocks lies outside of its bytes
outside : (at first n number : ℕ) → at ≡ 512 * first → ((k : ℕ) → k < n → number ≢ first + k) → IsOutside (512 * number) 512 at (512 * n)
outside at first n number place off = elim (cases_lt number first) [
  | inl less ↦ inl (omega (arith, less, place))
  | inr more ↦ elim (cases_lt number (first + n)) [
    | inl within ↦ absurd (let below : number - first < n = omega (arith, more, within) in off (number - first) below (omega (arith, more)))
    | inr past ↦ inr (omega (arith, past, place))
  ]
]

-- A WRITE
pub agrees_written : (told now : Option (List ℕ)) (at first n size : ℕ) (bytes : List ℕ) (old new : List (ℕ × List ℕ)) → Agrees told old
    → WritesRange told now at bytes → (told ≡ None → now ≡ None) → IfSome told (λ (content : List ℕ). length content ≡ size) → at + length bytes ≤ size
    → at ≡ 512 * first → length bytes ≡ 512 * n → KeepsOfRange first n bytes old new → Agrees now new
agrees_written told None at first n size bytes old new agrees writes untold sized within place long keeps = tt
agrees_written None (Some now) at first n size bytes old new agrees writes untold sized within place long keeps = absurd (let none = untold refl in cc)
agrees_written (Some content) (Some now) at first n size bytes old new agrees writes untold sized within place long keeps = λ e c. elim (keeps e c) [
  | inl on ↦
      let below : on.0 < n = on.1 in
      let key : e.0 ≡ first + on.0 = on.2 in
      let here : at + 512 * on.0 ≡ 512 * e.0 = omega (arith, key, place) in
      on.3 ∙ sym (range_at-put_at_inside (512 * on.0) 512 at bytes content (omega (arith, below, long)) (omega (arith, sized, within)))
      ∙ ap (λ (p : ℕ). range_at p 512 (put_at at bytes content)) here ∙ ap (λ (l : List ℕ). range_at (512 * e.0) 512 l) (sym writes)
  | inr off ↦
      agrees e off.1
      ∙ sym (range_at-put_at_outside (512 * e.0) 512 at bytes content (omega (arith, sized, within))
      (subst (IsOutside (512 * e.0) 512 at) (sym long) (outside at first n e.0 place off.0)))
      ∙ ap (λ (l : List ℕ). range_at (512 * e.0) 512 l) (sym writes)
]

-- A WRITE THAT FAILED: what lies outside of its range stays
same_outside : (p at n : ℕ) (content now : List ℕ) → KeepsOutside (Some content) (Some now) at n → IsOutside p 512 at n → range_at p 512 content ≡ range_at p 512 now
same_outside p at n content now keeps (inl before) =
    sym (range_at-take p 512 at content before) ∙ ap (λ (l : List ℕ). range_at p 512 l) (sym keeps.1) ∙ range_at-take p 512 at now before
same_outside p at n content now keeps (inr behind) =
    let place : (at + n) + (p - (at + n)) ≡ p = omega (arith, behind) in
    let later : (l : List ℕ) → drop p l ≡ drop (p - (at + n)) (drop (at + n) l) =
    λ l. ap (λ (m : ℕ). drop m l) (sym place) ∙ sym (drop-drop (p - (at + n)) (at + n) l) in
    ap (λ (l : List ℕ). take 512 l) (later content ∙ ap (λ (l : List ℕ). drop (p - (at + n)) l) (sym keeps.2) ∙ sym (later now))

pub agrees_failed : (told now : Option (List ℕ)) (at first n m : ℕ) (old new : List (ℕ × List ℕ)) → Agrees told old → KeepsOutside told now at m
    → (told ≡ None → now ≡ None) → at ≡ 512 * first → m ≡ 512 * n → KeepsNoneOfRange first n old new → Agrees now new
agrees_failed told None at first n m old new agrees keeps untold place long gone = tt
agrees_failed None (Some now) at first n m old new agrees keeps untold place long gone = absurd (let none = untold refl in cc)
agrees_failed (Some content) (Some now) at first n m old new agrees keeps untold place long gone = λ e c.
    let off = gone e c in
    agrees e off.1 ∙ same_outside (512 * e.0) at m content now keeps (subst (IsOutside (512 * e.0) 512 at) (sym long) (outside at first n e.0 place off.0))
