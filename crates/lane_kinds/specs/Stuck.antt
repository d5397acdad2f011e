-- How often an end was stuck with nothing else between, and sums over entries.
use Rattle.std.specs.Prelude.{ℕ, ◌+◌, ◌≤◌, List, [], ◌∷◌, ⊤}

abbrev pub sum_over : {E : Type 0} → (E → ℕ) → List E → ℕ
sum_over count [] = 0
sum_over count (x ∷ part) = count x + sum_over count part

-- never three times, where an entry says how often it is after it
abbrev pub NeverThree : {E : Type 0} → (ℕ → E → ℕ) → ℕ → List E → Type 0
NeverThree stuck n [] = ⊤
NeverThree stuck n (x ∷ part) = (stuck n x ≤ 2) × NeverThree stuck (stuck n x) part
