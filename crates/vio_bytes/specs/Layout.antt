-- Layouts: lists of fields, each a place and a width in bytes, and a length.
use Rattle.std.specs.Prelude.{◌≡◌, ℕ, ◌+◌, ◌<◌, ◌≤◌, ◌⊎◌, List, [], ◌∷◌, length, get_or, map}

-- what a field may be wide
abbrev pub IsFieldWidth : ℕ → Type 0
IsFieldWidth width = (width ≡ 1) ⊎ (width ≡ 2) ⊎ (width ≡ 4) ⊎ (width ≡ 6) ⊎ (width ≡ 8)

-- the fields are in rising order, from the place `from` on, and the last ends at or before `len`
abbrev pub AreInOrder : ℕ → List (ℕ × ℕ) → ℕ → Type 0
AreInOrder from [] len = from ≤ len
AreInOrder from (field ∷ fields) len =
    IsFieldWidth field.1 × (from ≤ field.0) × AreInOrder (field.0 + field.1) fields len

-- each width is 1, 2, 4, 6 or 8, each field begins at or after the end of the field before it, and the
-- last ends at or before the layout's length
abbrev pub IsSoundTable : List (ℕ × ℕ) → ℕ → Type 0
IsSoundTable fields len = AreInOrder 0 fields len

-- the table of a layout of so many bytes is sound, and has its fields at these places and of these widths
pub record IsLayout (fields : List (ℕ × ℕ)) (length : ℕ) (places widths : List ℕ) (bytes : ℕ) : Type 0 where
  pub sound : IsSoundTable fields length
  pub at_places : map (λ field. field.0) fields ≡ places
  pub of_widths : map (λ field. field.1) fields ≡ widths
  pub of_bytes : length ≡ bytes

-- where a field ends
abbrev pub end_of : List (ℕ × ℕ) → ℕ → ℕ
end_of fields k = (get_or fields k (0, 0)).0 + (get_or fields k (0, 0)).1

-- no two fields overlap, and each lies within the layout's length
pub record AreApart (fields : List (ℕ × ℕ)) (len : ℕ) : Type 0 where
  pub apart : (i k : ℕ) → i < k → k < length fields → end_of fields i ≤ (get_or fields k (0, 0)).0
  pub within : (k : ℕ) → k < length fields → end_of fields k ≤ len
