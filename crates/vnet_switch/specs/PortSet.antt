-- A set of ports as a number.
use Rattle.std.specs.Prelude.{◌≡◌, ◌≢◌, ℕ, ◌<◌, ◌↔◌, Bool, true, false, IsBitSet}

-- bit k is set exactly where the port k is in the set
abbrev pub IsSetOf : ℕ → (ℕ → Type 0) → Type 0
IsSetOf set IsIn = (k : ℕ) → IsBitSet set k ↔ IsIn k

-- the new set is the old one with the port
pub record WithPort (old port new : ℕ) : Type 0 where
  pub it : IsBitSet new port
  pub others : (k : ℕ) → k ≢ port → IsBitSet new k ↔ IsBitSet old k
  pub some : 0 < new

-- with it where it belongs to the set, else the old one
abbrev pub WithPortIf : Bool → ℕ → ℕ → ℕ → Type 0
WithPortIf true old port new = WithPort old port new
WithPortIf false old port new = new ≡ old
