-- Where a thing stands first in a list, found place by place, and lists whose places all differ.
use Rattle.std.proofs.Common.{◌≡◌, ℕ, zero, suc, ◌<◌, List, [], ◌∷◌, ◌++◌, length, slice_get, Some, ◌⊎◌, inl, inr, refl, sym, ◌∙◌, ap, arith}
use Rattle.domain_script.specs.Firsts.{AllDiffer, IsFirst, IsNoneOf}

-- a thing stands first at one place
pub one_place : {X : Type 0} (xs : List X) (x : X) (j k : ℕ) → IsFirst x xs j → IsFirst x xs k → j ≡ k
one_place [] x j k first second = absurd first
one_place (y ∷ ys) x zero zero first second = refl
one_place (y ∷ ys) x zero (suc k) first second = absurd (second.0 first)
one_place (y ∷ ys) x (suc j) zero first second = absurd (first.0 second)
one_place (y ∷ ys) x (suc j) (suc k) first second = ap (λ (n : ℕ). suc n) (one_place ys x j k first.1 second.1)

pub no_place : {X : Type 0} (xs : List X) (x : X) (k : ℕ) → IsNoneOf x xs → IsFirst x xs k → ⊥
no_place [] x k none first = first
no_place (y ∷ ys) x zero none first = none.0 first
no_place (y ∷ ys) x (suc k) none first = no_place ys x k none.1 first.1

pub place_within : {X : Type 0} (xs : List X) (x : X) (k : ℕ) → IsFirst x xs k → k < length xs
place_within [] x k first = absurd first
place_within (y ∷ ys) x zero first = omega arith
place_within (y ∷ ys) x (suc k) first = let less : k < length ys = place_within ys x k first.1 in omega arith

pub first_there : {X : Type 0} (xs : List X) (x : X) (k : ℕ) → IsFirst x xs k → slice_get xs k ≡ Some x
first_there [] x k first = absurd first
first_there (y ∷ ys) x zero first = ap Some first
first_there (y ∷ ys) x (suc k) first = first_there ys x k first.1

pub not_there : {X : Type 0} (xs : List X) (x : X) (k : ℕ) → IsNoneOf x xs → slice_get xs k ≡ Some x → ⊥
not_there [] x k none is = cc is
not_there (y ∷ ys) x zero none is = let same : y ≡ x = cc is in none.0 same
not_there (y ∷ ys) x (suc k) none is = not_there ys x k none.1 is

-- found place by place
pub is_first : {X : Type 0} (xs : List X) (x : X) (k : ℕ) → slice_get xs k ≡ Some x → ((j : ℕ) → j < k → slice_get xs j ≡ Some x → ⊥) → IsFirst x xs k
is_first [] x k is before = absurd (cc is)
is_first (y ∷ ys) x zero is before = cc is
is_first (y ∷ ys) x (suc k) is before = (
  λ same. before zero (omega arith) (ap Some same),
  is_first ys x k is (λ j lt there. before (suc j) (omega (arith, lt)) there),
)

pub is_none : {X : Type 0} (xs : List X) (x : X) → ((j : ℕ) → j < length xs → slice_get xs j ≡ Some x → ⊥) → IsNoneOf x xs
is_none [] x never = tt
is_none (y ∷ ys) x never = (
  λ same. never zero (omega arith) (ap Some same),
  is_none ys x (λ j lt there. never (suc j) (omega (arith, lt)) there),
)

-- ONE MORE, that was none of them
pub old_or_last : {X : Type 0} (xs : List X) (y x : X) (k : ℕ) → slice_get (xs ++ y ∷ []) k ≡ Some x → (slice_get xs k ≡ Some x) ⊎ ((k ≡ length xs) × (y ≡ x))
old_or_last [] y x zero is = inr (refl, cc is)
old_or_last [] y x (suc k) is = absurd (cc is)
old_or_last (z ∷ zs) y x zero is = inl is
old_or_last (z ∷ zs) y x (suc k) is = elim (old_or_last zs y x k is) [
  | inl old ↦ inl old
  | inr last ↦ inr (ap (λ (n : ℕ). suc n) last.0, last.1)
]

both_old : {X : Type 0} (xs : List X) (y x : X) (j k : ℕ) → AllDiffer xs → IsNoneOf y xs → (slice_get xs j ≡ Some x) ⊎ ((j ≡ length xs) × (y ≡ x))
    → (slice_get xs k ≡ Some x) ⊎ ((k ≡ length xs) × (y ≡ x)) → j ≡ k
both_old xs y x j k differ none (inl first) (inl second) = differ j k x first second
both_old xs y x j k differ none (inl first) (inr second) = absurd (not_there xs y j none (first ∙ ap Some (sym second.1)))
both_old xs y x j k differ none (inr first) (inl second) = absurd (not_there xs y k none (second ∙ ap Some (sym first.1)))
both_old xs y x j k differ none (inr first) (inr second) = first.0 ∙ sym second.0

pub differ_push : {X : Type 0} (xs : List X) (y : X) → AllDiffer xs → IsNoneOf y xs → AllDiffer (xs ++ y ∷ [])
differ_push xs y differ none j k x first second = both_old xs y x j k differ none (old_or_last xs y x j first) (old_or_last xs y x k second)
