-- The bytes of an entry.
use Rattle.std.specs.Prelude.{ℕ, List}

pub record BytesState : Type 0 where
  pub items : List ℕ
  -- how many more it can hold
  pub room : ℕ

-- these bytes, and no room for more
abbrev pub filled : List ℕ → BytesState
filled items = record { items = items; room = 0 }
