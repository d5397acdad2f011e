-- Looking through a list from its front: what was passed doesn't matter.
use Rattle.std.proofs.Common.{◌≡◌, ℕ, zero, suc, ◌+◌, ◌<◌, Bool, true, false, ◌||◌, List, [], ◌∷◌, length, get_or, drop, find, zip, refl, sym, ◌∙◌, ap, arith}
use Rattle.std.specs.List.{list_any}
use Rattle.std.proofs.lemmas.Bool.{cond-false}

passed : {X : Type 0} (test : X → Bool) (k : ℕ) (xs : List X) (d : X) → k < length xs → test (get_or xs k d) ≡ false → find test (drop k xs) ≡ find test (drop (suc k) xs)
passed test k [] d lt other = absurd (omega (arith, lt))
passed test zero (x ∷ xs) d lt other = cond-false (test x) _ (find test xs) other
passed test (suc k) (x ∷ xs) d lt other = passed test k xs d (omega (arith, lt)) other

pub not_first : {X : Type 0} (test : X → Bool) (k next : ℕ) (xs : List X) (d : X) → next ≡ k + 1 → k < length xs → test (get_or xs k d) ≡ false
    → find test (drop k xs) ≡ find test (drop next xs)
not_first test k next xs d is lt other =
    let more : next ≡ suc k = omega (arith, is) in
    passed test k xs d lt other ∙ ap (λ (n : ℕ). find test (drop n xs)) (sym more)

any_false : (b : Bool) → (b || false) ≡ b
any_false true = refl
any_false false = refl

none_more : {X Y : Type 0} (xs : List X) (ys : List Y) → ys ≡ [] → zip xs ys ≡ []
none_more [] ys none = refl
none_more (x ∷ xs) ys none = ap (λ os. zip (x ∷ xs) os) none

-- one thing is left for the places
pub one_left : {X Y : Type 0} (test : X × Y → Bool) (k : ℕ) (xs : List X) (d : X) (y : Y) → k < length xs → list_any test (zip (drop k xs) (y ∷ [])) ≡ test (get_or xs k d, y)
one_left test k [] d y lt = absurd (omega (arith, lt))
one_left test zero (x ∷ xs) d y lt = ap (λ ps. test (x, y) || list_any test ps) (none_more xs [] refl) ∙ any_false (test (x, y))
one_left test (suc k) (x ∷ xs) d y lt = one_left test k xs d y (omega (arith, lt))
