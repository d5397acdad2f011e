-- What holds of each of a list, one more at a time.
use Rattle.std.proofs.Common.{ℕ, zero, suc, ◌+◌, ◌<◌, List, [], ◌∷◌, ◌++◌, length, get_or, take, drop, replicate, sym, subst}
use Rattle.std.proofs.lemmas.List.{take-append-drop, take_more}
use Rattle.std.specs.List.{AllByRecursion}

pub each_append : {A : Type 0} (P : A → Type 0) (xs ys : List A) → AllByRecursion P xs → AllByRecursion P ys → AllByRecursion P (xs ++ ys)
each_append P [] ys one other = other
each_append P (x ∷ xs) ys one other = (one.0, each_append P xs ys one.1 other)

-- it holds of the next too
pub each_more : {A : Type 0} (P : A → Type 0) (xs : List A) (i : ℕ) (d : A) → i < length xs → AllByRecursion P (take i xs) → P (get_or xs i d)
    → AllByRecursion P (take (i + 1) xs)
each_more {A} P xs i d within front next =
    subst (λ (ys : List A). AllByRecursion P ys) (sym (take_more xs i d within)) (each_append P (take i xs) (get_or xs i d ∷ []) front (next, tt))

pub each_replicate : {A : Type 0} (P : A → Type 0) (n : ℕ) (x : A) → P x → AllByRecursion P (replicate n x)
each_replicate P zero x holds = tt
each_replicate P (suc n) x holds = (holds, each_replicate P n x holds)

-- it holds of the front and of what is after it
pub each_of_both : {A : Type 0} (P : A → Type 0) (n : ℕ) (xs : List A) → AllByRecursion P (take n xs) → AllByRecursion P (drop n xs) → AllByRecursion P xs
each_of_both {A} P n xs front behind =
    subst (λ (ys : List A). AllByRecursion P ys) (take-append-drop n xs) (each_append P (take n xs) (drop n xs) front behind)
