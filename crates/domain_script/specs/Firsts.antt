-- Things in a list: what each of them is, and where one stands first.
use Rattle.std.specs.Prelude.{◌≡◌, ◌≢◌, ℕ, zero, suc, List, [], ◌∷◌, Some, slice_get}

-- each of them has a property
abbrev pub AreAll : {X : Type 0} → (X → Type 0) → List X → Type 0
AreAll P [] = Unit {0}
AreAll P (x ∷ xs) = P x × AreAll P xs

-- none of them is x
abbrev pub IsNoneOf : {X : Type 0} → X → List X → Type 0
IsNoneOf x [] = Unit {0}
IsNoneOf x (y ∷ ys) = (y ≢ x) × IsNoneOf x ys

-- the k-th is x, and none before it
abbrev pub IsFirst : {X : Type 0} → X → List X → ℕ → Type 0
IsFirst x [] k = ⊥
IsFirst x (y ∷ ys) zero = y ≡ x
IsFirst x (y ∷ ys) (suc k) = (y ≢ x) × IsFirst x ys k

-- no two places have the same
abbrev pub AllDiffer : {X : Type 0} → List X → Type 0
AllDiffer {X = X} xs = (j k : ℕ) (x : X) → slice_get xs j ≡ Some x → slice_get xs k ≡ Some x → j ≡ k
