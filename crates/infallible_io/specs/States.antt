-- What a caller sees of a disk that can't fail, and of a sink that grows.
use Rattle.std.specs.Prelude.{ℕ, List}

pub record InfallibleDiskState : Type 0 where
  pub bytes : List ℕ
  -- reads, writes and flushes are counted together
  pub calls : ℕ
  -- how many of them were flushes, and how many writes
  pub flushes : ℕ
  pub writes : ℕ

pub record GrowingSinkState : Type 0 where
  pub written : List ℕ
  -- how often memory was wanted
  pub faults : ℕ
