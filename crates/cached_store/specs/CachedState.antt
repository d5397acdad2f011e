-- A store behind a cache.
use Rattle.std.specs.Prelude.{ℕ, List}
use Rattle.vio_io.specs.Causes.{count_after}

pub record CachedState (D : Type 0) : Type 0 where
  pub inner : D
  -- the blocks that are kept, the most recently used first, and how many there may be
  pub kept : List (ℕ × List ℕ)
  pub most : ℕ
  -- how many reads were answered without the inner store
  pub spared : ℕ

-- how often it was called: a read that was spared the inner store is a call of it all the same
abbrev pub calls_of : {D : Type 0} → (D → ℕ) → CachedState D → ℕ
calls_of calls s = count_after s.spared (calls s.inner)
