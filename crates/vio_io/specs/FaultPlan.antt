-- Which calls of an object in memory fail.
use Rattle.std.specs.Prelude.{ℕ, zero, suc, List, Bool, ◌==◌, if◌then◌else◌}
use Rattle.std.specs.List.{list_any}
use Rattle.vio_io.specs.Causes.{next_count}

pub record Plan : Type 0 where
  -- the numbers of the calls that fail, counted from 0
  pub failing : List ℕ
  -- how many calls were made
  pub calls : ℕ
  pub faults : ℕ

-- no call was made yet; those with these numbers will fail
abbrev pub unused : List ℕ → Plan
unused failing = record { failing = failing; calls = 0; faults = 0 }

-- whether the next call fails
abbrev pub fails_next : Plan → Bool
fails_next p = list_any (λ n. n == p.calls) p.failing

-- after a call, which counts a fault where it failed
abbrev pub noted : Plan → Bool → Plan
noted p failed = record { failing = p.failing; calls = next_count p.calls; faults = if failed then next_count p.faults else p.faults }

-- after the next call
abbrev pub after_call : Plan → Plan
after_call p = noted p (fails_next p)

-- after the next n calls
abbrev pub after_calls : ℕ → Plan → Plan
after_calls zero p = p
after_calls (suc n) p = after_call (after_calls n p)
