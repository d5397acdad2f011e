-- What messages about a range of a ring's slots hold: a number, which goes on after its last value, and the ring's state.
use Rattle.std.specs.Prelude.{ℕ, ◌%◌, ◌^◌, Bool, true, false, ◌==◌, if◌then◌else◌}

abbrev pub is_other : ℕ → ℕ → Bool
is_other expected found = if expected == found then false else true

-- a number of 8 bytes that goes on after its last value
abbrev pub wrapped : ℕ → ℕ
wrapped n = n % 2 ^ 64

-- a ring goes on to be worked, or isn't worked any more
abbrev pub ring_active : ℕ
ring_active = 1

abbrev pub ring_stopped : ℕ
ring_stopped = 2
