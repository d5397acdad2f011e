-- A number's text, one digit after another.
use Rattle.std.proofs.Common.{◌≡◌, ℕ, ◌+◌, ◌*◌, ◌/◌, ◌%◌, ◌^◌, ◌<◌, ◌≤◌, ◌-◌, List, [], ◌∷◌, ◌++◌, take, get_or, length, ap, sym, ◌∙◌, arith}
use Rattle.std.proofs.lemmas.Fmt.{decimal_step}
use Rattle.std.proofs.lemmas.List.{take_more}
use Rattle.std.specs.Fmt.{decimal}

-- a digit after those of a number that isn't 0
digit_more : (n d : ℕ) → 1 ≤ n → d < 10 → n * 10 + d < 2 ^ 64 → decimal (n * 10 + d) ≡ decimal n ++ (48 + d) ∷ []
digit_more n d some small fits =
    let tens : (n * 10 + d) / 10 ≡ n = omega arith in
    let ones : (n * 10 + d) % 10 ≡ d = omega arith in
    decimal_step (n * 10 + d) (omega arith) fits
    ∙ ap (λ (k : ℕ). decimal k ++ (48 + (n * 10 + d) % 10) ∷ []) tens
    ∙ ap (λ (k : ℕ). decimal n ++ (48 + k) ∷ []) ones

-- the digits up to the i-th of a list, after a first one
pub digits_more : (first : ℕ) (rest : List ℕ) (i n more : ℕ) → i < length rest → 48 ≤ get_or rest i 0 → get_or rest i 0 ≤ 57 → 1 ≤ n → more ≡ n * 10 + (get_or rest i 0 - 48) → more < 2 ^ 64
    → first ∷ take i rest ≡ decimal n → first ∷ take (i + 1) rest ≡ decimal more
digits_more first rest i n more lt least most some sum fits is =
    let d : ℕ = get_or rest i 0 - 48 in
    let byte : get_or rest i 0 ≡ 48 + d = omega arith in
    ap (λ (l : List ℕ). first ∷ l) (take_more rest i 0 lt ∙ ap (λ (b : ℕ). take i rest ++ b ∷ []) byte)
    ∙ ap (λ (l : List ℕ). l ++ (48 + d) ∷ []) is
    ∙ sym (digit_more n d some (omega arith) (omega arith))
    ∙ ap (λ (k : ℕ). decimal k) (sym sum)
