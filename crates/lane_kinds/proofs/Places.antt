-- Lists by their places: an element that is set, and the front and the rest at it.
use Rattle.std.proofs.Common.{◌≡◌, ℕ, zero, suc, ◌+◌, ◌≤◌, ◌<◌, List, [], ◌∷◌, ◌++◌, length, map, take, drop, slice_get, slice_set, Some, refl, sym, ap, ◌∙◌, arith}

pub after_one : (k : ℕ) → k + 1 ≡ suc k
after_one k = omega (arith)

-- WHAT IS SET is there, and the others are as they were
pub get_set : {X : Type 0} (xs : List X) (k : ℕ) (x y : X) → slice_get xs k ≡ Some x → slice_get (slice_set xs k y) k ≡ Some y
get_set [] k x y there = absurd (cc there)
get_set (z ∷ xs) zero x y there = refl
get_set (z ∷ xs) (suc k) x y there = get_set xs k x y there

pub get_other : {X : Type 0} (xs : List X) (k j : ℕ) (y : X) → (k ≡ j → ⊥) → slice_get (slice_set xs k y) j ≡ slice_get xs j
get_other (z ∷ xs) (suc k) (suc j) y other = get_other xs k j y (λ same. other (ap suc same))
get_other xs k j y other = grind arith

-- set to what is there already
pub set_same : {X : Type 0} (xs : List X) (k : ℕ) (x : X) → slice_get xs k ≡ Some x → slice_set xs k x ≡ xs
set_same [] k x there = absurd (cc there)
set_same {X} (z ∷ xs) zero x there = let same : x ≡ z = cc there in ap (λ (y : X). y ∷ xs) same
set_same {X} (z ∷ xs) (suc k) x there = ap (λ (l : List X). z ∷ l) (set_same xs k x there)

-- THE FRONT AND THE REST
pub take_one : {X : Type 0} (xs : List X) (k : ℕ) (x : X) → slice_get xs k ≡ Some x → take (suc k) xs ≡ take k xs ++ x ∷ []
take_one [] k x there = absurd (cc there)
take_one {X} (z ∷ xs) zero x there = let same : z ≡ x = cc there in ap (λ (y : X). y ∷ []) same
take_one {X} (z ∷ xs) (suc k) x there = ap (λ (l : List X). z ∷ l) (take_one xs k x there)

pub take_set : {X : Type 0} (xs : List X) (k : ℕ) (x : X) → take k (slice_set xs k x) ≡ take k xs
take_set [] k x = refl
take_set (z ∷ xs) zero x = refl
take_set {X} (z ∷ xs) (suc k) x = ap (λ (l : List X). z ∷ l) (take_set xs k x)

pub drop_set : {X : Type 0} (xs : List X) (k : ℕ) (x : X) → drop (suc k) (slice_set xs k x) ≡ drop (suc k) xs
drop_set [] k x = refl
drop_set (z ∷ xs) zero x = refl
drop_set (z ∷ xs) (suc k) x = drop_set xs k x

pub take_length : {X : Type 0} (xs : List X) (k : ℕ) (x : X) → slice_get xs k ≡ Some x → length (take k xs) ≡ k
take_length [] k x there = absurd (cc there)
take_length (z ∷ xs) zero x there = refl
take_length (z ∷ xs) (suc k) x there = ap suc (take_length xs k x there)

-- lists with the same rest have the same first of it, and the same after that
pub get_first : {X : Type 0} (xs : List X) (k : ℕ) → slice_get xs k ≡ slice_get (drop k xs) 0
get_first [] zero = refl
get_first [] (suc k) = refl
get_first (z ∷ xs) zero = refl
get_first (z ∷ xs) (suc k) = get_first xs k

pub same_first : {X : Type 0} (xs ys : List X) (k : ℕ) → drop k ys ≡ drop k xs → slice_get ys k ≡ slice_get xs k
same_first {X} xs ys k same = get_first ys k ∙ ap (λ (l : List X). slice_get l 0) same ∙ sym (get_first xs k)

pub drop_next : {X : Type 0} (xs : List X) (k : ℕ) → drop (suc k) xs ≡ drop 1 (drop k xs)
drop_next [] zero = refl
drop_next [] (suc k) = refl
drop_next (z ∷ xs) zero = refl
drop_next (z ∷ xs) (suc k) = drop_next xs k

pub same_next : {X : Type 0} (xs ys : List X) (k : ℕ) → drop k ys ≡ drop k xs → drop (suc k) ys ≡ drop (suc k) xs
same_next xs ys k same = drop_next ys k ∙ ap (drop 1) same ∙ sym (drop_next xs k)

-- THE FIRST OF THEM, where one is set that more are there than
pub get_within : {X : Type 0} (xs : List X) (k : ℕ) → k < length xs → (x : X) × (slice_get xs k ≡ Some x)
get_within [] k less = absurd (omega (arith, less))
get_within (z ∷ xs) zero less = (z, refl)
get_within (z ∷ xs) (suc k) less = get_within xs k (omega (arith, less))

pub take_set_one : {X : Type 0} (xs : List X) (k : ℕ) (x : X) → k < length xs → take (suc k) (slice_set xs k x) ≡ take k xs ++ x ∷ []
take_set_one {X} xs k x less =
    let at = get_within xs k less in
    take_one (slice_set xs k x) k x (get_set xs k at.0 x at.1) ∙ ap (λ (l : List X). l ++ x ∷ []) (take_set xs k x)

-- ALL OF THEM
pub take_whole : {X : Type 0} (xs : List X) → take (length xs) xs ≡ xs
take_whole [] = refl
take_whole {X} (x ∷ xs) = ap (λ (l : List X). x ∷ l) (take_whole xs)

pub drop_whole : {X : Type 0} (xs : List X) → drop (length xs) xs ≡ []
drop_whole [] = refl
drop_whole (x ∷ xs) = drop_whole xs

-- a list with nothing after so many is these
pub take_most : {X : Type 0} (xs : List X) (k : ℕ) → drop k xs ≡ [] → take k xs ≡ xs
take_most [] zero nothing = refl
take_most [] (suc k) nothing = refl
take_most (x ∷ xs) zero nothing = absurd (cc nothing)
take_most {X} (x ∷ xs) (suc k) nothing = ap (λ (l : List X). x ∷ l) (take_most xs k nothing)

pub map_both : {X Y : Type 0} (f : X → Y) (xs ys : List X) → map f (xs ++ ys) ≡ map f xs ++ map f ys
map_both f [] ys = refl
map_both {X} {Y} f (x ∷ xs) ys = ap (λ (l : List Y). f x ∷ l) (map_both f xs ys)

-- a front of a front
pub take_within : {X : Type 0} (k n : ℕ) (xs : List X) → k ≤ n → take k (take n xs) ≡ take k xs
take_within {X} (suc k) (suc n) (x ∷ xs) within = ap (λ (l : List X). x ∷ l) (take_within k n xs (omega (arith, within)))
take_within k n xs within = grind arith

-- THE LAST ONE
pub never_empty : {X : Type 0} (xs : List X) (x : X) → [] ≡ xs ++ x ∷ [] → ⊥
never_empty [] x is = cc is
never_empty (y ∷ xs) x is = cc is

pub same_last : {X : Type 0} (xs ys : List X) (x y : X) → xs ++ x ∷ [] ≡ ys ++ y ∷ [] → x ≡ y
same_last [] [] x y is = cc is
same_last {X} [] (b ∷ ys) x y is = let none : [] ≡ ys ++ y ∷ [] = cc is in absurd (never_empty ys y none)
same_last {X} (a ∷ xs) [] x y is = let none : [] ≡ xs ++ x ∷ [] = cc is in absurd (never_empty xs x none)
same_last (a ∷ xs) (b ∷ ys) x y is = let rest : xs ++ x ∷ [] ≡ ys ++ y ∷ [] = cc is in same_last xs ys x y rest

pub record HasLast {X : Type 0} (xs : List X) : Type 0 where
  pub before : List X
  pub last : X
  pub is : xs ≡ before ++ last ∷ []

last_more : {X : Type 0} (x : X) (xs : List X) → HasLast xs → HasLast (x ∷ xs)
last_more {X} x xs at = record { before = x ∷ at.before; last = at.last; is = ap (λ (l : List X). x ∷ l) at.is }

pub has_last : {X : Type 0} (xs : List X) → 1 ≤ length xs → HasLast xs
has_last [] some = absurd (omega (arith, some))
has_last (x ∷ []) some = record { before = []; last = x; is = refl }
has_last (x ∷ y ∷ xs) some = last_more x (y ∷ xs) (has_last (y ∷ xs) (omega (arith)))
