-- Lower-case hexadecimal digits one after another, and the bytes that they spell.
use Rattle.std.proofs.Common.{◌≡◌, ◌≢◌, ℕ, zero, suc, ◌+◌, ◌*◌, ◌/◌, ◌%◌, ◌<◌, ◌&&◌, Bool, true, ltb, inl, inr, List, [], ◌∷◌, ◌++◌, length, take, slice_index, slice_set, refl, ap, ◌∙◌, below_more, get_or-set_other, get_or-set_same, arith}
use Rattle.std.proofs.lemmas.List.{take_more, take_more_set, append_assoc}
use Rattle.std.proofs.lemmas.List.{get_or_past}
use Rattle.std.proofs.lemmas.Bool.{and_from, cases_lt, lt-ltb}
use Rattle.hex.specs.Hex.{IsBytes, encode_lower, encode_with, lower_digits}

-- the two digits of each byte
pub high_digit : (bytes : List ℕ) (i : ℕ) → i < length bytes → slice_index (encode_lower bytes) (2 * i) ≡ slice_index lower_digits (slice_index bytes i / 16)
unfolding encode_with
high_digit [] i lt = absurd (omega arith)
high_digit (b ∷ bytes) zero lt = refl
high_digit (b ∷ bytes) (suc i) lt =
    let two : 2 * suc i ≡ suc (suc (2 * i)) = omega arith in
    rw two (high_digit bytes i (omega arith))

pub low_digit : (bytes : List ℕ) (i : ℕ) → i < length bytes → slice_index (encode_lower bytes) (2 * i + 1) ≡ slice_index lower_digits (slice_index bytes i % 16)
unfolding encode_with
low_digit [] i lt = absurd (omega arith)
low_digit (b ∷ bytes) zero lt = refl
low_digit (b ∷ bytes) (suc i) lt =
    let two : 2 * suc i + 1 ≡ suc (suc (2 * i + 1)) = omega arith in
    rw two (low_digit bytes i (omega arith))

encode_push : (bytes : List ℕ) (b : ℕ) → encode_lower (bytes ++ b ∷ []) ≡ encode_lower bytes ++ slice_index lower_digits (b / 16) ∷ slice_index lower_digits (b % 16) ∷ []
unfolding encode_with
encode_push [] b = refl
encode_push (x ∷ bytes) b =
    ap (λ (l : List ℕ). slice_index lower_digits (x / 16) ∷ slice_index lower_digits (x % 16) ∷ l) (encode_push bytes b)

-- two more digits of a text
take_two : (text : List ℕ) (i : ℕ) → 2 * i + 1 < length text
    → take (2 * (i + 1)) text ≡ take (2 * i) text ++ slice_index text (2 * i) ∷ slice_index text (2 * i + 1) ∷ []
take_two text i lt =
    let two : 2 * (i + 1) ≡ 2 * i + 1 + 1 = omega arith in
    let first = take_more text (2 * i) 0 (omega arith) in
    let second = take_more text (2 * i + 1) 0 lt in
    rw (two, second, first) (append_assoc (take (2 * i) text) (slice_index text (2 * i) ∷ []) (slice_index text (2 * i + 1) ∷ []))

-- one byte more is read
pub read_more : (text out : List ℕ) (i high low : ℕ) → i < length out → 2 * i + 1 < length text → high < 16 → low < 16
    → slice_index lower_digits high ≡ slice_index text (2 * i) → slice_index lower_digits low ≡ slice_index text (2 * i + 1)
    → take (2 * i) text ≡ encode_lower (take i out)
    → take (2 * (i + 1)) text ≡ encode_lower (take (i + 1) (slice_set out i (high % 16 * 16 + low % 16)))
read_more text out i high low room lt high_small low_small high_is low_is before =
    let byte : ℕ = high % 16 * 16 + low % 16 in
    let above : byte / 16 ≡ high = omega arith in
    let below : byte % 16 ≡ low = omega arith in
    let pushed = encode_push (take i out) byte in
    let front = take_more_set out i byte room in
    take_two text i lt ∙ rw (front, pushed, above, below, high_is, low_is, before) refl

-- a byte more that is written
pub small_more : (out : List ℕ) (i byte : ℕ) → i < length out → byte < 256 → ((k : ℕ) → k < i → slice_index out k < 256)
    → (k : ℕ) → k < i + 1 → slice_index (slice_set out i byte) k < 256
small_more out i byte room small before =
    below_more _ _ (λ k lt. let other : k ≢ i = omega arith in rw get_or-set_other (before k lt))
    (rw (get_or-set_same out i byte 0 room) small)

-- all places are those below the length
pub all_small : (out : List ℕ) → ((k : ℕ) → k < length out → slice_index out k < 256) → IsBytes out
all_small out small k =
    elim (cases_lt k (length out)) [
      | inl within ↦ small k within
      | inr past ↦ rw (get_or_past out k 0 past) (omega arith)
    ]

-- good so far, and two digits more
pub still_good : (good : Bool) (high low : ℕ) → good ≡ true → high < 16 → low < 16 → (good && ltb high 16 && ltb low 16) ≡ true
still_good good high low so_far high_small low_small =
    and_from (good && ltb high 16) (ltb low 16) (and_from good (ltb high 16) so_far (lt-ltb high 16 high_small)) (lt-ltb low 16 low_small)
