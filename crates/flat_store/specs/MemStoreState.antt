-- A list of bytes as a store, some of whose calls fail.
use Rattle.std.specs.Prelude.{ℕ, List}
use Rattle.vio_io.specs.FaultPlan.{Plan}

pub record MemStoreState : Type 0 where
  pub bytes : List ℕ
  -- reads, writes and flushes are counted together
  pub plan : Plan
  -- how many of them were flushes, and how many writes
  pub flushes : ℕ
  pub writes : ℕ
