-- Bytes that a list doesn't have.
use Rattle.std.proofs.Common.{◌≡◌, ℕ, ◌+◌, ◌<◌, ◌≤◌, zero, suc, true, eqb, List, [], ◌∷◌, ◌++◌, length, get_or, take, drop, sym, ◌∙◌, ap, arith}
use Rattle.std.proofs.lemmas.Bool.{eq-eqb, eqb-true}
use Rattle.std.proofs.lemmas.List.{take-append-drop, drop_more}
use Rattle.script_words.specs.Pieces.{HasNo}

-- none of the first n bytes is c
pub has_no_take : (c : ℕ) (xs : List ℕ) (n : ℕ) → ((k : ℕ) → 0 ≤ k → k < n → eqb (get_or xs k 0) c ≡ true → ⊥) → HasNo c (take n xs)
has_no_take c xs zero none = tt
has_no_take c [] (suc n) none = tt
has_no_take c (x ∷ xs) (suc n) none = (
  λ is. none zero (omega arith) (omega arith) (eq-eqb x c is),
  has_no_take c xs n (λ k low lt is. none (suc k) (omega arith) (omega arith) is),
)

pub has_no_all : (c : ℕ) (xs : List ℕ) → ((k : ℕ) → 0 ≤ k → k < length xs → eqb (get_or xs k 0) c ≡ true → ⊥) → HasNo c xs
has_no_all c [] none = tt
has_no_all c (x ∷ xs) none = (
  λ is. none zero (omega arith) (omega arith) (eq-eqb x c is),
  has_no_all c xs (λ k low lt is. none (suc k) (omega arith) (omega arith) is),
)

pub has_no_append : (c : ℕ) (xs ys : List ℕ) → HasNo c xs → HasNo c ys → HasNo c (xs ++ ys)
has_no_append c [] ys first second = second
has_no_append c (x ∷ xs) ys first second = (first.0, has_no_append c xs ys first.1 second)

-- a list is cut at the byte c
pub cut_at : (c : ℕ) (xs : List ℕ) (n : ℕ) → n < length xs → eqb (get_or xs n 0) c ≡ true → xs ≡ take n xs ++ c ∷ drop (n + 1) xs
cut_at c xs n lt is =
    sym (take-append-drop n xs)
    ∙ ap (λ (l : List ℕ). take n xs ++ l) (drop_more xs n 0 lt ∙ ap (λ (b : ℕ). b ∷ drop (n + 1) xs) (eqb-true (get_or xs n 0) c is))
