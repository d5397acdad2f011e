-- A list of bytes as a store whose calls never fail.
use Rattle.std.specs.Prelude.{ℕ, List}

pub record ZeroStoreState : Type 0 where
  pub bytes : List ℕ
  -- reads, writes and flushes are counted together
  pub calls : ℕ
  -- how many of them were flushes, and how many writes
  pub flushes : ℕ
  pub writes : ℕ
