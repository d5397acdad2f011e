-- How many disks a host gave. Its count goes round at 2^64, so that each disk that it gives changes it.
use Rattle.std.specs.Prelude.{◌≡◌, ℕ, ◌+◌, ◌^◌, ◌%◌, Option, Some, None}

-- the count after one more
abbrev pub next_given : ℕ → ℕ
next_given count = (count + 1) % 2 ^ 64

-- what became of the host's count where a call ended with this disk, or with none: the host gave it alone, or gave none
abbrev pub Gave : {D : Type 0} → ℕ → ℕ → Option D → Type 0
Gave before now None = now ≡ before
Gave before now (Some disk) = now ≡ next_given before
