-- Ranges of a list of bytes.
use Rattle.std.specs.Prelude.{ℕ, List, take, drop}

-- the `n` bytes from place `at` on
abbrev pub range_at : ℕ → ℕ → List ℕ → List ℕ
range_at at n bytes = take n (drop at bytes)
