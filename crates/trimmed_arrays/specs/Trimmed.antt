-- Arrays of one size that are kept without the zeros at their ends.
use Rattle.std.specs.Prelude.{ℕ, ◌-◌, List, ◌++◌, length, map, replicate}

pub record ArraysState : Type 0 where
  -- the length of each array
  pub size : ℕ
  pub items : List (List ℕ)
  -- how many more it can hold
  pub room : ℕ

-- an array by its front, with zeros after it
abbrev pub padded : ℕ → List ℕ → List ℕ
padded size front = front ++ replicate (size - length front) 0

-- the arrays by their fronts
abbrev pub untrimmed : ℕ → List (List ℕ) → List (List ℕ)
untrimmed size fronts = map (padded size) fronts
