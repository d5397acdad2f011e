-- A list that is read from its front, one element after another.
use Rattle.std.proofs.Common.{◌≡◌, ℕ, zero, suc, ◌+◌, ◌<◌, ◌≤◌, List, [], ◌∷◌, Some, length, drop, slice_get, ap, refl, arith}
use Rattle.std.proofs.lemmas.List.{drop-drop, length-drop}

-- the next one is read
pub drop_next : {A : Type 0} (n : ℕ) (all rest : List A) (x : A) → drop n all ≡ x ∷ rest → drop (n + 1) all ≡ rest
drop_next n all rest x is = rw (← drop-drop 1 n all, is) refl

-- it is the n-th
pub get_next : {A : Type 0} (n : ℕ) (all rest : List A) (x : A) → drop n all ≡ x ∷ rest → slice_get all n ≡ Some x
get_next zero all rest x is = rw is refl
get_next (suc n) [] rest x is = cc
get_next (suc n) (y ∷ all) rest x is = get_next n all rest x is

-- so there is one
pub within_next : {A : Type 0} (n : ℕ) (all rest : List A) (x : A) → drop n all ≡ x ∷ rest → n < length all
within_next n all rest x is = omega (arith, length-drop n all, ap length is)

-- none is left
pub past_last : {A : Type 0} (n : ℕ) (all : List A) → drop n all ≡ [] → length all ≤ n
past_last n all is = omega (arith, length-drop n all, ap length is)

pub ruleset front_read = (drop_next, get_next, within_next, past_last)
