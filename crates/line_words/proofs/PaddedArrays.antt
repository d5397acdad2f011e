-- Arrays that are padded with zeros.
use Rattle.std.proofs.Common.{◌≡◌, ℕ, ◌+◌, ◌-◌, ◌≤◌, zero, suc, List, [], ◌∷◌, ◌++◌, length, take, replicate, ap, sym, ◌∙◌, arith}
use Rattle.std.proofs.lemmas.List.{take-replicate}

taken : (front : List ℕ) (n j k : ℕ) → n ≡ length front + j → j ≤ k
    → take n (front ++ replicate k 0) ≡ front ++ replicate j 0
taken [] n j k is within =
    let same : n ≡ j = omega (arith, is) in
    ap (λ (m : ℕ). take m (replicate k 0)) same ∙ take-replicate j k 0 within
taken (byte ∷ front) zero j k is within = absurd (omega (arith, is))
taken (byte ∷ front) (suc n) j k is within =
    ap (λ (l : List ℕ). byte ∷ l) (taken front n j k (omega (arith, is)) within)

-- an array of n by its front, out of m bytes that begin with it and go on with zeros
pub take_padded : (front whole : List ℕ) (n m : ℕ) → length front ≤ n → n ≤ m
    → whole ≡ front ++ replicate (n - length front) 0
    → take n (front ++ replicate (m - length front) 0) ≡ whole
take_padded front whole n m within most is =
    taken front n (n - length front) (m - length front) (omega (arith, within)) (omega (arith, within, most)) ∙ sym is
