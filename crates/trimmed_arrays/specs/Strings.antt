-- Byte strings that stand one after another in one list of bytes. `lengths` are theirs.
use Rattle.std.specs.Prelude.{◌≡◌, ℕ, ◌≤◌, List, [], ◌∷◌, length, take, drop}

pub record StringsState : Type 0 where
  -- the most bytes of each
  pub most : ℕ
  pub items : List (List ℕ)
  -- how many more it can hold
  pub room : ℕ

-- those that are still to be read
pub record StringsLeft : Type 0 where
  -- the most bytes of each
  pub most : ℕ
  pub items : List (List ℕ)

abbrev pub strings_of : List ℕ → List ℕ → List (List ℕ)
strings_of [] bytes = []
strings_of (n ∷ lengths) bytes = take n bytes ∷ strings_of lengths (drop n bytes)

-- each string is there, has no more than the most bytes, and nothing is after the last
abbrev pub AreStrings : ℕ → List ℕ → List ℕ → Type 0
AreStrings most [] bytes = bytes ≡ []
AreStrings most (n ∷ lengths) bytes = (n ≤ most) × (n ≤ length bytes) × AreStrings most lengths (drop n bytes)
