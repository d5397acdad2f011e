-- Powers of two, which rings and queues have for their sizes.
use Rattle.std.specs.Prelude.{◌≡◌, ℕ, ◌^◌}

abbrev pub IsPowerOfTwo : ℕ → Type 0
IsPowerOfTwo n = (k : ℕ) × (n ≡ 2 ^ k)
