-- Numbers at places of a list of bytes, the highest byte first, as all layouts of the sun4v LDC and VIO
-- chapters have them.
use Rattle.std.specs.Prelude.{ℕ, ◌+◌, ◌≤◌, ◌⊎◌, List, ◌++◌, length, take, drop}
use Rattle.byteorder.specs.Endian.{big_number}
-- the bytes of a number, so many and the highest first, are the ported crate's
pub use Rattle.byteorder.specs.Endian.{big_bytes}

-- the number in the `width` bytes from place `at`
abbrev pub number_at : ℕ → ℕ → List ℕ → ℕ
number_at width at bytes = big_number width (drop at bytes)

-- the bytes with `piece` in the place of those from `at` on
abbrev pub put_at : ℕ → List ℕ → List ℕ → List ℕ
put_at at piece bytes = take at bytes ++ (piece ++ drop (at + length piece) bytes)

-- the `w` bytes from place `p` end before the `width` bytes from place `at`, or begin after them
abbrev pub IsOutside : ℕ → ℕ → ℕ → ℕ → Type 0
IsOutside p w at width = (p + w ≤ at) ⊎ (at + width ≤ p)
