-- A queue of packets: those that wait, the place where the next one is taken, and how many entries it has.
use Rattle.std.specs.Prelude.{ℕ, ◌+◌, ◌*◌, ◌%◌, Bool, true, false, List, [], ◌∷◌, length, Option, Some, None}

pub record Waiting : Type 0 where
  pub packets : List (List ℕ)
  -- in bytes, modulo 64 times the entries
  pub head : ℕ
  pub entries : ℕ

-- the place where the next packet is put
abbrev pub tail_place : ℕ → ℕ → List (List ℕ) → ℕ
tail_place entries head packets = (head + 64 * length packets) % (64 * entries)

-- the place where the next packet is taken, once the first of these was
abbrev pub head_past : ℕ → ℕ → List (List ℕ) → ℕ
head_past entries head [] = head
head_past entries head (packet ∷ packets) = (head + 64) % (64 * entries)

-- what was taken, by whether it was written
abbrev pub taken_out : Bool → List ℕ → Option (List ℕ)
taken_out true packet = Some packet
taken_out false packet = None
