-- A list of bytes as a source, and as a sink.
use Rattle.std.specs.Prelude.{ℕ, List, Bool, ◌==◌, ◌||◌}
use Rattle.vio_io.specs.FaultPlan.{Plan, fails_next, noted}

pub record ListSourceState : Type 0 where
  -- the bytes that are left
  pub left : List ℕ
  -- the most that one call gives
  pub piece : ℕ
  pub plan : Plan
  -- how often a call said that nothing is left
  pub ends : ℕ

pub record ListSinkState : Type 0 where
  pub written : List ℕ
  -- how many bytes it can still hold
  pub room : ℕ
  pub plan : Plan

-- whether the next write fails
abbrev pub refuses_next : ListSinkState → Bool
refuses_next s = fails_next s.plan || (s.room == 0)

-- the plan after the next write, which is a fault also where no room is left
abbrev pub after_write : ListSinkState → Plan
after_write s = noted s.plan (refuses_next s)
