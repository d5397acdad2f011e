-- The zeros at a front's end, which may be left out.
use Rattle.std.proofs.Common.{◌≡◌, ℕ, ◌+◌, ◌-◌, ◌≤◌, ◌++◌, List, length, take, drop, replicate, sym, ap, append_assoc, ◌∙◌, arith}
use Rattle.std.proofs.lemmas.List.{drop-drop, length-append, length-replicate, length-take, replicate-append-replicate, take-append-drop}
use Rattle.trimmed_arrays.specs.Trimmed.{padded}

zeros_joined : (before : List ℕ) (n m k : ℕ) → n + m ≡ k → (before ++ replicate n 0) ++ replicate m 0 ≡ before ++ replicate k 0
zeros_joined before n m k is =
    append_assoc before (replicate n 0) (replicate m 0)
    ∙ ap (λ (l : List ℕ). before ++ l) (replicate-append-replicate n m 0)
    ∙ ap (λ (i : ℕ). before ++ replicate i 0) is

zeros_left_out : (size n : ℕ) (before : List ℕ) → length before + n ≤ size → padded size (before ++ replicate n 0) ≡ padded size before
zeros_left_out size n before fits =
    let long : length (before ++ replicate n 0) ≡ length before + n = length-append before (replicate n 0) ∙ ap (λ (k : ℕ). length before + k) (length-replicate n 0) in
    zeros_joined before n (size - length (before ++ replicate n 0)) (size - length before) (omega arith)

pub end_left_out : (size n : ℕ) (front array : List ℕ) → n ≤ length front → drop (length front - n) front ≡ replicate n 0 → length front ≤ size → padded size front ≡ array → padded size (take (length front - n) front) ≡ array
end_left_out size n front array within zeros short same =
    let split : take (length front - n) front ++ replicate n 0 ≡ front =
    ap (λ (l : List ℕ). take (length front - n) front ++ l) (sym zeros) ∙ take-append-drop (length front - n) front in
    let fits : length (take (length front - n) front) + n ≤ size = omega (arith, length-take (length front - n) front) in
    sym (zeros_left_out size n (take (length front - n) front) fits) ∙ ap (padded size) split ∙ same

pub trimmed_twice : (size : ℕ) (first second array : List ℕ) → padded (length first) second ≡ first → length second ≤ length first → padded size first ≡ array → length first ≤ size → padded size second ≡ array
trimmed_twice size first second array inner shorter outer short =
    let fits : length second + (length first - length second) ≤ size = omega arith in
    sym (zeros_left_out size (length first - length second) second fits) ∙ ap (padded size) inner ∙ outer

-- the zeros at the end of the last eight bytes
pub word_end : (front word : List ℕ) (zeros : ℕ) → 8 ≤ length front → word ≡ drop (length front - 8) front → zeros ≤ 8 → drop (8 - zeros) word ≡ replicate zeros 0 → drop (length front - zeros) front ≡ replicate zeros 0
word_end front word zeros long is within are =
    let place : length front - zeros ≡ length front - 8 + (8 - zeros) = omega arith in
    ap (λ (k : ℕ). drop k front) place
    ∙ sym (drop-drop (8 - zeros) (length front - 8) front)
    ∙ ap (drop (8 - zeros)) (sym is)
    ∙ are
