-- What a put and a removal leave of the kept blocks, and rows of them.
use Rattle.std.proofs.Common.{◌≡◌, ◌≢◌, ℕ, suc, ◌+◌, ◌-◌, ◌*◌, ◌<◌, ◌≤◌, true, false, nat_eq, List, [], ◌∷◌, ◌++◌, length, take, drop, Contains, Option, Some, None, refl, sym, ap, ◌∙◌, subst, inl, inr, arith}
use Rattle.std.specs.Prelude.{IsSome, is_some}
use Rattle.std.specs.List.{AllByRecursion, IsDistinct}
use Rattle.std.specs.Map.{keys_of, lookup, lookup_entry, remove_entry}
use Rattle.std.specs.Option.{option_map, option_map_or}
use Rattle.std.proofs.lemmas.Bool.{cases_lt, eqb-false, eqb-true}
use Rattle.std.proofs.lemmas.List.{length-map, take_all, take_at}
use Rattle.std.proofs.lemmas.Map.Made.{lookup-map_values}
use Rattle.lru.specs.LruCache.{IsValid, LruCache, lru_cache, promoted, put_entries}
use Rattle.lru.proofs.CallerLemmas.{Contains-lookup_entry, Contains-take}
use Rattle.lru.proofs.Splits.{Contains-cons, Contains-head, Contains-nil, Contains-tail}
use Rattle.vio_bytes.specs.Place.{put_at}
use Rattle.vio_bytes.specs.Range.{range_at}
use Rattle.cached_store.specs.Kept.{KeepsNoneOf, KeepsNoneOfRange, KeepsOf, KeepsOfRange, MayPut, MayPutRange, kept_block, put_first, used, without}
use Rattle.cached_store.specs.Slots.{IsRoom, kept_of}
use Rattle.cached_store.proofs.Slots.{kept_put, spare_apart, spare_within}
use Rattle.cached_store.proofs.Valued.{fewer, found_none, found_value, keys-valued, missed, promoted-valued, remove-valued}

-- ONE KEY: none of these keys is it
apart : (number : ℕ) (es : List (ℕ × List ℕ)) (e : ℕ × List ℕ) → AllByRecursion (λ (y : ℕ). nat_eq number y ≡ false) (keys_of es) → Contains es e → e.0 ≢ number
apart number [] e all c = absurd (Contains-nil e c)
apart number (f ∷ es) e all c = elim (Contains-cons f es e c) [
  | inl same ↦ λ is. eqb-false number f.0 all.0 (sym (ap (λ (p : ℕ × List ℕ). p.0) same ∙ is))
  | inr on ↦ apart number es e all.1 on
]

absent : (number : ℕ) (es : List (ℕ × List ℕ)) (e : ℕ × List ℕ) → kept_block number es ≡ None → Contains es e → e.0 ≢ number
absent number [] e none c = absurd (Contains-nil e c)
absent number (f ∷ es) e none c = (elim (nat_eq number f.0) as (λ y. nat_eq number f.0 ≡ y → e.0 ≢ number) [
  | true ↦ λ t. let h = rw t at none in absurd (cc)
  | false ↦ λ t. elim (Contains-cons f es e c) [
    | inl same ↦ λ is. eqb-false number f.0 t (sym (ap (λ (p : ℕ × List ℕ). p.0) same ∙ is))
    | inr on ↦ absent number es e (rw t at none) on
  ]
]) refl

pub removed : (number : ℕ) (es : List (ℕ × List ℕ)) → IsDistinct nat_eq (keys_of es) → KeepsNoneOf number es (without number es)
unfolding IsDistinct
removed number [] distinct e c = absurd (Contains-nil e c)
removed number (f ∷ es) distinct e c = (elim (nat_eq number f.0) as (λ y. nat_eq number f.0 ≡ y → (e.0 ≢ number) × Contains (f ∷ es) e) [
  | true ↦ λ t.
      let is : number ≡ f.0 = eqb-true number f.0 t in
      let on : Contains es e = rw t at c in
      ((λ same. apart f.0 es e distinct.0 on (same ∙ is)), Contains-tail f es e on)
  | false ↦ λ t. elim (Contains-cons f (without number es) e (rw t at c)) [
    | inl same ↦ ((λ is. eqb-false number f.0 t (sym (ap (λ (p : ℕ × List ℕ). p.0) same ∙ is))), subst (Contains (f ∷ es)) same (Contains-head f es))
    | inr on ↦ let before = removed number es distinct.1 e on in (before.0, Contains-tail f es e before.1)
  ]
]) refl

-- A PUT is that of the map
module _ (s : LruCache ℕ (List ℕ)) (number : ℕ) (bytes : List ℕ) (valid : IsValid nat_eq s) where
  by_entry : (o : Option (ℕ × List ℕ)) → lookup_entry (nat_eq number) s.entries ≡ o
      → option_map_or (λ (e : ℕ × List ℕ). (e.0, bytes) ∷ without number s.entries) o ((number, bytes) ∷ take (s.cap - 1) s.entries) ≡ put_first s.cap number bytes s.entries
  by_entry None is =
      let some : 0 < s.cap = valid.2 in
      let one_more : s.cap ≡ suc (s.cap - 1) = omega (arith, some) in
      sym (ap (λ (n : ℕ). take n ((number, bytes) ∷ without number s.entries)) one_more
      ∙ ap (λ (l : List (ℕ × List ℕ)). (number, bytes) ∷ take (s.cap - 1) l) (missed (nat_eq number) s.entries (found_none (nat_eq number) s.entries is)))
  by_entry (Some f) is =
      let key : number ≡ f.0 = eqb-true number f.0 (Contains-lookup_entry (nat_eq number) s.entries f is).1 in
      let one : suc (length (without number s.entries)) ≡ length s.entries = fewer (nat_eq number) s.entries f.1 (found_value (nat_eq number) s.entries f is) in
      let few : length s.entries ≤ s.cap = valid.1 in
      let fits : length ((number, bytes) ∷ without number s.entries) ≤ s.cap = omega (arith, one, few) in
      ap (λ (k : ℕ). (k, bytes) ∷ without number s.entries) (sym key) ∙ sym (take_all s.cap ((number, bytes) ∷ without number s.entries) fits)

  pub put_is : put_entries nat_eq s number bytes ≡ put_first s.cap number bytes s.entries
  put_is = by_entry (lookup_entry (nat_eq number) s.entries) refl

pub put_keeps : (most number : ℕ) (bytes : List ℕ) (es : List (ℕ × List ℕ)) → IsDistinct nat_eq (keys_of es) → KeepsOf number bytes es (put_first most number bytes es)
put_keeps most number bytes es distinct e c =
    elim (Contains-cons (number, bytes) (without number es) e (Contains-take most ((number, bytes) ∷ without number es) e c)) [
      | inl same ↦ inl (sym (ap (λ (p : ℕ × List ℕ). p.0) same), sym (ap (λ (p : ℕ × List ℕ). p.1) same))
      | inr on ↦ inr (removed number es distinct e on)
    ]

pub may_put_keeps : (most number : ℕ) (bytes : List ℕ) (old new : List (ℕ × List ℕ)) → IsDistinct nat_eq (keys_of old) → MayPut most number bytes old new → KeepsOf number bytes old new
may_put_keeps most number bytes old new distinct (inl put) = subst (KeepsOf number bytes old) (sym put) (put_keeps most number bytes old distinct)
may_put_keeps most number bytes old new distinct (inr refused) =
    subst (KeepsOf number bytes old) (sym refused.1) (λ e c. inr (absent number old e refused.0 c, c))

-- ONE MORE of a row
pub keeps_more : (first n : ℕ) (bytes : List ℕ) (old mid new : List (ℕ × List ℕ)) → KeepsOfRange first n bytes old mid
    → KeepsOf (first + n) (range_at (512 * n) 512 bytes) mid new → KeepsOfRange first (suc n) bytes old new
keeps_more first n bytes old mid new before last e c = elim (last e c) [
  | inl at ↦ inl (n, omega arith, at.0, at.1)
  | inr on ↦ elim (before e on.1) [
    | inl at ↦ inl (at.0, (let below : at.0 < n = at.1 in omega (arith, below)), at.2, at.3)
    | inr off ↦ inr (other off.0 on.0, off.1)
  ]
]
  where
    other : ((k : ℕ) → k < n → e.0 ≢ first + k) → e.0 ≢ first + n → (k : ℕ) → k < suc n → e.0 ≢ first + k
    other off not k below = elim (cases_lt k n) [
      | inl less ↦ off k less
      | inr more ↦ λ is. let same : k ≡ n = omega (arith, more, below) in not (is ∙ ap (λ (i : ℕ). first + i) same)
    ]

pub keeps_none_more : (first n : ℕ) (old mid new : List (ℕ × List ℕ)) → KeepsNoneOfRange first n old mid
    → KeepsNoneOf (first + n) mid new → KeepsNoneOfRange first (suc n) old new
keeps_none_more first n old mid new before last e c =
    let on = last e c in
    let off = before e on.1 in (
      (λ k below. elim (cases_lt k n) [
        | inl less ↦ off.0 k less
        | inr more ↦ λ is. let same : k ≡ n = omega (arith, more, below) in on.0 (is ∙ ap (λ (i : ℕ). first + i) same)
      ]),
      off.1,
    )

pub may_put_more : (most first n : ℕ) (bytes : List ℕ) (old mid new : List (ℕ × List ℕ)) → MayPutRange most first n bytes old mid
    → MayPut most (first + n) (range_at (512 * n) 512 bytes) mid new → MayPutRange most first (suc n) bytes old new
may_put_more most first n bytes old mid new before last = (mid, before, last)

-- BEHIND A PUT OF THE MAP, whose bytes were written to the spare slot
pub distinct_seen : (bytes : List ℕ) (es : List (ℕ × ℕ)) → IsDistinct nat_eq (keys_of es) → IsDistinct nat_eq (keys_of (kept_of bytes es))
distinct_seen bytes es = subst (IsDistinct nat_eq) (sym (keys-valued (λ (x : ℕ). range_at (512 * x) 512 bytes) es))

valid_seen : (bytes : List ℕ) (s : LruCache ℕ ℕ) → IsValid nat_eq s → IsValid nat_eq (lru_cache (kept_of bytes s.entries) s.cap)
valid_seen bytes s valid = (
  distinct_seen bytes s.entries valid.0,
  (let few = valid.1 in let long = length-map {B = ℕ × List ℕ} s.entries (λ (e : ℕ × ℕ). (e.0, range_at (512 * e.1) 512 bytes)) in omega (arith, few, long)),
  valid.2,
)

pub put_seen : (s new : LruCache ℕ ℕ) (number spare most : ℕ) (piece free bytes : List ℕ) → IsValid nat_eq s → s.cap ≡ most
    → new ≡ lru_cache (put_entries nat_eq s number spare) s.cap → length piece ≡ 512 → IsRoom most spare s.entries free bytes
    → kept_of (put_at (512 * spare) piece bytes) new.entries ≡ put_first most number piece (kept_of bytes s.entries)
put_seen s new number spare most piece free bytes valid cap is long room =
    ap (λ (t : LruCache ℕ ℕ). kept_of (put_at (512 * spare) piece bytes) t.entries) is
    ∙ kept_put s number spare piece bytes long (spare_within most spare s.entries free bytes room) (spare_apart most spare s.entries free bytes room)
    ∙ put_is (lru_cache (kept_of bytes s.entries) s.cap) number piece (valid_seen bytes s valid)
    ∙ ap (λ (m : ℕ). put_first m number piece (kept_of bytes s.entries)) cap

none_of : (o : Option ℕ) → (IsSome o → false ≡ true) → o ≡ None
none_of None succeeds = refl
none_of (Some x) succeeds = absurd (let no = succeeds refl in cc)

pub none_seen : (bytes : List ℕ) (es : List (ℕ × ℕ)) (number : ℕ) → (IsSome (lookup (nat_eq number) es) → false ≡ true) → kept_block number (kept_of bytes es) ≡ None
none_seen bytes es number succeeds =
    lookup-map_values (λ (x : ℕ). range_at (512 * x) 512 bytes) (nat_eq number) es
    ∙ ap (option_map (λ (x : ℕ). range_at (512 * x) 512 bytes)) (none_of (lookup (nat_eq number) es) succeeds)

-- whether one is found doesn't hang on the bytes
some_as : (g : ℕ → List ℕ) (o : Option ℕ) → is_some (option_map g o) ≡ is_some o
some_as g None = refl
some_as g (Some x) = refl

pub some_seen : (bytes : List ℕ) (es : List (ℕ × ℕ)) (number : ℕ) → is_some (kept_block number (kept_of bytes es)) ≡ is_some (lookup (nat_eq number) es)
some_seen bytes es number =
    ap is_some (lookup-map_values (λ (x : ℕ). range_at (512 * x) 512 bytes) (nat_eq number) es)
    ∙ some_as (λ (x : ℕ). range_at (512 * x) 512 bytes) (lookup (nat_eq number) es)

-- BEHIND A REMOVAL, and behind a use
pub without_seen : (bytes : List ℕ) (s new : LruCache ℕ ℕ) (number : ℕ) (kept : List (ℕ × List ℕ))
    → new ≡ lru_cache (remove_entry (nat_eq number) s.entries) s.cap → kept_of bytes s.entries ≡ kept
    → kept_of bytes new.entries ≡ without number kept
without_seen bytes s new number kept is old =
    ap (λ (t : LruCache ℕ ℕ). kept_of bytes t.entries) is
    ∙ sym (remove-valued (λ (x : ℕ). range_at (512 * x) 512 bytes) (nat_eq number) s.entries)
    ∙ ap (without number) old

pub used_seen : (bytes : List ℕ) (s new : LruCache ℕ ℕ) (number : ℕ) (kept : List (ℕ × List ℕ))
    → new ≡ lru_cache (promoted (nat_eq number) s.entries) s.cap → kept_of bytes s.entries ≡ kept
    → kept_of bytes new.entries ≡ used number kept
used_seen bytes s new number kept is old =
    ap (λ (t : LruCache ℕ ℕ). kept_of bytes t.entries) is
    ∙ sym (promoted-valued (λ (x : ℕ). range_at (512 * x) 512 bytes) (nat_eq number) s.entries)
    ∙ ap (used number) old

pub found_seen : (bytes : List ℕ) (es : List (ℕ × ℕ)) (number slot : ℕ) (kept : List (ℕ × List ℕ))
    → lookup (nat_eq number) es ≡ Some slot → kept_of bytes es ≡ kept → kept_block number kept ≡ Some (range_at (512 * slot) 512 bytes)
found_seen bytes es number slot kept found is =
    ap (kept_block number) (sym is)
    ∙ lookup-map_values (λ (x : ℕ). range_at (512 * x) 512 bytes) (nat_eq number) es
    ∙ ap (option_map (λ (x : ℕ). range_at (512 * x) 512 bytes)) found

pub missed_seen : (bytes : List ℕ) (es : List (ℕ × ℕ)) (number : ℕ) (kept : List (ℕ × List ℕ))
    → None ≡ lookup (nat_eq number) es → kept_of bytes es ≡ kept → IsSome (kept_block number kept) → ⊥
missed_seen bytes es number kept none is some =
    let gone : kept_block number kept ≡ None =
    ap (kept_block number) (sym is)
    ∙ lookup-map_values (λ (x : ℕ). range_at (512 * x) 512 bytes) (nat_eq number) es
    ∙ ap (option_map (λ (x : ℕ). range_at (512 * x) 512 bytes)) (sym none) in
    let no = rw gone at some in cc

-- the bytes behind a write to a slot, as the vector has them
pub bytes_written : (n spare : ℕ) (piece old now room : List ℕ) → room ≡ put_at (512 * spare) piece now → now ≡ old → length room ≡ n
    → take n (room ++ drop (length room) old) ≡ put_at (512 * spare) piece old
bytes_written n spare piece old now room is same long =
    take_at room (drop (length room) old) n long ∙ is ∙ ap (put_at (512 * spare) piece) same
