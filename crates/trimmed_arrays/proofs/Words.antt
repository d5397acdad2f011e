-- The zeros at the end of eight bytes, by the number that these are.
use Rattle.std.proofs.Common.{◌≡◌, ℕ, suc, zero, ◌+◌, ◌*◌, ◌-◌, ◌/◌, ◌%◌, ◌^◌, ◌≤◌, ◌<◌, List, ◌∷◌, length, get_or, drop, replicate, refl, sym, ap, ◌∙◌, arith}
use Rattle.std.proofs.Math.Nat.{div-eq_of_lt, pow-le-pow_right, pow-suc}
use Rattle.std.proofs.lemmas.Nat.{le_bytes_8, leading_length, pow-add}
use Rattle.std.specs.Int.{byte_at, bytes_low_first, from_le_bytes, leading_zeros, w64}

-- a byte above all that a number has
byte_zero : (i n : ℕ) → n < 256 ^ i → byte_at i n ≡ 0
byte_zero zero n small = omega arith
byte_zero (suc i) n small = ap (λ (q : ℕ). q % 256) (div-eq_of_lt small)

high_bytes : (i k n : ℕ) → n < 256 ^ i → bytes_low_first i k n ≡ replicate k 0
high_bytes i zero n small = refl
high_bytes i (suc k) n small =
    let more : 256 ^ i ≤ 256 ^ suc i = pow-le-pow_right (omega arith) (omega arith) in
    ap (λ (b : ℕ). b ∷ bytes_low_first (suc i) k n) (byte_zero i n small)
    ∙ ap (λ (l : List ℕ). 0 ∷ l) (high_bytes (suc i) k n (omega arith))

dropped : (j i k m n : ℕ) → j + k ≡ m → drop j (bytes_low_first i m n) ≡ bytes_low_first (i + j) k n
dropped zero i k m n is =
    let place : i ≡ i + 0 = omega arith in
    let count : m ≡ k = omega arith in
    ap (λ (x : ℕ). bytes_low_first i x n) count ∙ ap (λ (x : ℕ). bytes_low_first x k n) place
dropped (suc j) i k zero n is = absurd (omega arith)
dropped (suc j) i k (suc m) n is =
    let rest : j + k ≡ m = omega arith in
    let place : suc i + j ≡ i + suc j = omega arith in
    dropped j (suc i) k m n rest ∙ ap (λ (x : ℕ). bytes_low_first x k n) place

byte_power : (j : ℕ) → 2 ^ (8 * j) ≡ 256 ^ j
byte_power zero = refl
byte_power (suc j) =
    let more : 8 * suc j ≡ 8 * j + 8 = omega arith in
    ap (λ (k : ℕ). 2 ^ k) more ∙ pow-add 2 (8 * j) 8 ∙ ap (λ (x : ℕ). x * 256) (byte_power j) ∙ sym (pow-suc 256 j)

end_of : (word : List ℕ) (n bits zeros : ℕ) → length word ≡ 8 → ((i : ℕ) → get_or word i 0 < 256) → n ≡ from_le_bytes w64 word → n < 2 ^ bits → bits + 8 * zeros ≤ 64 → drop (8 - zeros) word ≡ replicate zeros 0
end_of word n bits zeros eight bytes is small fits =
    let within : bits ≤ 8 * (8 - zeros) = omega arith in
    let power : 2 ^ bits ≤ 2 ^ (8 * (8 - zeros)) = pow-le-pow_right (omega arith) within in
    let same : 2 ^ (8 * (8 - zeros)) ≡ 256 ^ (0 + (8 - zeros)) = byte_power (8 - zeros) ∙ ap (λ (k : ℕ). 256 ^ k) (omega arith) in
    ap (drop (8 - zeros)) (sym (le_bytes_8 word n eight bytes is))
    ∙ dropped (8 - zeros) 0 zeros 8 n (omega arith)
    ∙ high_bytes (0 + (8 - zeros)) zeros n (omega arith)

-- bits that are zeros at a number's top are zeros at the end of its bytes
pub zeros_at_end : (word : List ℕ) (n : ℕ) → length word ≡ 8 → ((i : ℕ) → get_or word i 0 < 256) → n ≡ from_le_bytes w64 word → n < 2 ^ 64 → drop (8 - leading_zeros w64 n / 8) word ≡ replicate (leading_zeros w64 n / 8) 0
zeros_at_end word n eight bytes is small =
    let long : _ = leading_length 64 n small in
    end_of word n long.0 (leading_zeros w64 n / 8) eight bytes is long.2 (omega (arith, long.1))
