-- The digits of bytes in two parts.
use Rattle.std.proofs.Common.{◌≡◌, ℕ, ◌/◌, ◌%◌, List, [], ◌∷◌, ◌++◌, append_assoc, take, drop, refl, sym, ap, ◌∙◌}
use Rattle.std.specs.Prelude.{slice_index}
use Rattle.std.proofs.lemmas.List.{take-append-drop}
use Rattle.hex.specs.Hex.{encode_lower, encode_with, lower_digits}

pub hex_both : (xs ys : List ℕ) → encode_lower (xs ++ ys) ≡ encode_lower xs ++ encode_lower ys
unfolding encode_with
hex_both [] ys = refl
hex_both (x ∷ xs) ys =
    ap (λ (l : List ℕ). slice_index lower_digits (x / 16) ∷ slice_index lower_digits (x % 16) ∷ l) (hex_both xs ys)

-- one part more of a text
pub hex_more : (so_far whole piece behind rest : List ℕ) → whole ≡ so_far ++ encode_lower rest → rest ≡ piece ++ behind
    → whole ≡ (so_far ++ encode_lower piece) ++ encode_lower behind
hex_more so_far whole piece behind rest is cut =
    is ∙ ap (λ (l : List ℕ). so_far ++ encode_lower l) cut
    ∙ ap (λ (l : List ℕ). so_far ++ l) (hex_both piece behind)
    ∙ sym (append_assoc so_far (encode_lower piece) (encode_lower behind))

-- in pieces of so many bytes
pub hex_piece : (so_far whole rest piece behind : List ℕ) (n : ℕ) → whole ≡ so_far ++ encode_lower rest → piece ≡ take n rest
    → behind ≡ drop n rest → whole ≡ (so_far ++ encode_lower piece) ++ encode_lower behind
hex_piece so_far whole rest piece behind n is front back =
    hex_more so_far whole piece behind rest is
    (sym (take-append-drop n rest) ∙ ap (λ (l : List ℕ). l ++ drop n rest) (sym front) ∙ ap (λ (l : List ℕ). piece ++ l) (sym back))
