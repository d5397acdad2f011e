-- A use changes the order alone: each block is found behind it as before.
use Rattle.std.proofs.Common.{◌≡◌, ◌≢◌, ℕ, zero, suc, ◌+◌, ◌-◌, ◌*◌, ◌<◌, ◌≤◌, true, false, cond, nat_eq, List, [], ◌∷◌, ◌++◌, length, take, drop, Option, Some, None, refl, sym, ap, ◌∙◌, subst, inl, inr, arith, append_assoc, length-append}
use Rattle.std.specs.Prelude.{is_some, IsSome}
use Rattle.std.specs.Map.{lookup_entry}
use Rattle.std.specs.Option.{option_map_or, unwrap_or}
use Rattle.std.proofs.lemmas.Bool.{and_parts, cases_lt, eqb-false, eqb-true}
use Rattle.std.proofs.lemmas.List.{drop-drop, length-take-le, take_at}
use Rattle.lru.proofs.CallerLemmas.{Contains-lookup_entry}
use Rattle.vio_bytes.specs.Place.{put_at}
use Rattle.vio_bytes.proofs.Putting.{length-put_at}
use borrow.Rule.Slice.PartMut.{put_mid}
use Rattle.cached_store.specs.Kept.{all_kept, bytes_kept, kept_block, used, used_range, without}
use Rattle.cached_store.proofs.Valued.{found_value}

other_found : (k number : ℕ) (es : List (ℕ × List ℕ)) → k ≢ number → kept_block k (without number es) ≡ kept_block k es
other_found k number [] apart = refl
other_found k number (f ∷ es) apart = (elim (nat_eq number f.0) as (λ y. nat_eq number f.0 ≡ y → kept_block k (without number (f ∷ es)) ≡ kept_block k (f ∷ es)) [
  | true ↦ λ t.
      let key : number ≡ f.0 = eqb-true number f.0 t in
      (elim (nat_eq k f.0) as (λ y. nat_eq k f.0 ≡ y → kept_block k (without number (f ∷ es)) ≡ kept_block k (f ∷ es)) [
        | true ↦ λ h. absurd (apart (eqb-true k f.0 h ∙ sym key))
        | false ↦ λ h. rw (t, h) refl
      ]) refl
  | false ↦ λ t. rw t (ap (λ (o : Option (List ℕ)). cond (nat_eq k f.0) (Some f.1) o) (other_found k number es apart))
]) refl

by_entry : (k number : ℕ) (es : List (ℕ × List ℕ)) (o : Option (ℕ × List ℕ)) → lookup_entry (nat_eq number) es ≡ o
    → kept_block k (option_map_or (λ (e : ℕ × List ℕ). e ∷ without number es) o es) ≡ kept_block k es
by_entry k number es None is = refl
by_entry k number es (Some f) is =
    let key : number ≡ f.0 = eqb-true number f.0 (Contains-lookup_entry (nat_eq number) es f is).1 in
    (elim (nat_eq k f.0) as (λ y. nat_eq k f.0 ≡ y → cond (nat_eq k f.0) (Some f.1) (kept_block k (without number es)) ≡ kept_block k es) [
      | true ↦ λ h.
          let same : number ≡ k = key ∙ sym (eqb-true k f.0 h) in
          rw h (sym (subst (λ (n : ℕ). kept_block n es ≡ Some f.1) same (found_value (nat_eq number) es f is)))
      | false ↦ λ h. rw h (other_found k number es (λ same. eqb-false k f.0 h (same ∙ key)))
    ]) refl

found_used : (k number : ℕ) (es : List (ℕ × List ℕ)) → kept_block k (used number es) ≡ kept_block k es
found_used k number es = by_entry k number es (lookup_entry (nat_eq number) es) refl

pub found_behind : (k first n : ℕ) (es : List (ℕ × List ℕ)) → kept_block k (used_range first n es) ≡ kept_block k es
found_behind k first zero es = refl
found_behind k first (suc n) es = found_used k (first + n) (used_range first n es) ∙ found_behind k first n es

-- each of a row of which all are kept
each_kept : (first n : ℕ) (es : List (ℕ × List ℕ)) (i : ℕ) → all_kept first n es ≡ true → i < n → is_some (kept_block (first + i) es) ≡ true
each_kept first zero es i all below = absurd (omega (arith, below))
each_kept first (suc n) es i all below =
    let parts = and_parts (all_kept first n es) (is_some (kept_block (first + n) es)) all in
    elim (cases_lt i n) [
      | inl less ↦ each_kept first n es i parts.0 less
      | inr more ↦ let same : n ≡ i = omega (arith, more, below) in subst (λ (j : ℕ). is_some (kept_block (first + j) es) ≡ true) same parts.1
    ]

pub kept_behind : (first n i : ℕ) (es : List (ℕ × List ℕ)) → all_kept first n es ≡ true → i < n → IsSome (kept_block (first + i) (used_range first i es))
kept_behind first n i es all below =
    subst IsSome (sym (found_behind (first + i) first i es)) (each_kept first n es i all below)

pub all_more : (first n : ℕ) (es : List (ℕ × List ℕ)) → all_kept first n es ≡ true → is_some (kept_block (first + n) es) ≡ true → all_kept first (suc n) es ≡ true
all_more first n es before last = rw (before, last) refl

pub none_kept : (first n i : ℕ) (es : List (ℕ × List ℕ)) → i < n → is_some (kept_block (first + i) es) ≡ false → false ≡ all_kept first n es
none_kept first n i es below is = (elim (all_kept first n es) as (λ y. all_kept first n es ≡ y → false ≡ y) [
  | true ↦ λ all. sym is ∙ each_kept first n es i all below
  | false ↦ λ all. refl
]) refl

-- THE BYTES of a row, one block more
pub record FilledTo (first i : ℕ) (es : List (ℕ × List ℕ)) (out new : List ℕ) : Type 0 where
  pub long : length new ≡ length out
  pub filled : take (512 * i) new ≡ bytes_kept first i es

pub filled_more : (first i : ℕ) (es : List (ℕ × List ℕ)) (out now piece : List ℕ) → FilledTo first i es out now → 512 * i + 512 ≤ length out
    → kept_block (first + i) (used_range first i es) ≡ Some piece → length piece ≡ 512
    → FilledTo first (suc i) es out (put_mid (512 * i) (512 * i + 512 - 512 * i) now piece)
filled_more first i es out now piece before room found long =
    let at : ℕ = 512 * i in
    let less : at + 512 - at ≡ length piece = omega (arith, long) in
    let here : at + length piece ≤ length now = let same : length now ≡ length out = before.long in omega (arith, same, room, long) in
    let mid : put_mid at (at + 512 - at) now piece ≡ put_at at piece now =
    ap (λ (n : ℕ). take at now ++ (piece ++ drop n (drop at now))) less ∙ ap (λ (l : List ℕ). take at now ++ (piece ++ l)) (drop-drop (length piece) at now) in
    let next : 512 * suc i ≡ at + 512 = omega arith in
    let front : length (take at now ++ piece) ≡ 512 * suc i =
    length-append (take at now) piece ∙ omega (arith, length-take-le at now (omega (arith, here)), long, next) in
    let is : unwrap_or (kept_block (first + i) es) [] ≡ piece =
    ap (λ (o : Option (List ℕ)). unwrap_or o []) (sym (found_behind (first + i) first i es) ∙ found) in
    record {
      long = ap length mid ∙ length-put_at at piece now here ∙ before.long;
      filled = ap (λ (l : List ℕ). take (512 * suc i) l) (mid ∙ sym (append_assoc (take at now) piece (drop (at + length piece) now)))
          ∙ take_at (take at now ++ piece) (drop (at + length piece) now) (512 * suc i) front
          ∙ ap (λ (l : List ℕ). l ++ piece) before.filled
          ∙ ap (λ (l : List ℕ). bytes_kept first i es ++ l) (sym is);
    }
