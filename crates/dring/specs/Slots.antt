-- A ring as a list of slots at the front of a list of bytes.
use Rattle.std.specs.Prelude.{◌≡◌, ◌≢◌, ℕ, zero, suc, ◌+◌, ◌*◌, ◌-◌, ◌%◌, ◌<◌, ◌≤◌, ◌⊎◌, List, [], ◌∷◌, ◌++◌, length, replicate}
use Rattle.vio_bytes.specs.Range.{range_at}

-- a slot has 64 bytes at a port, 128 at a disk
abbrev pub IsSlotSize : ℕ → Type 0
IsSlotSize size = (size ≡ 64) ⊎ (size ≡ 128)

-- the states of a descriptor, its first byte
abbrev pub free_state : ℕ
free_state = 1

abbrev pub ready_state : ℕ
ready_state = 2

-- taken up by the other end, and not done yet
abbrev pub accepted_state : ℕ
accepted_state = 3

abbrev pub done_state : ℕ
done_state = 4

-- the bytes of a slot
abbrev pub slot_bytes : ℕ → ℕ → List ℕ → List ℕ
slot_bytes size i memory = range_at (size * i) size memory

-- a slot that holds nothing: FREE, and zeros
abbrev pub free_slot : ℕ → List ℕ
free_slot size = free_state ∷ replicate (size - 1) 0

abbrev pub free_slots : ℕ → ℕ → List ℕ
free_slots size zero = []
free_slots size (suc slots) = free_slot size ++ free_slots size slots

-- the slots of the numbers from lo on and below hi, in a ring of n slots: the bytes of each are as its number says
abbrev pub Slots : ℕ → ℕ → (ℕ → List ℕ → Type 0) → ℕ → ℕ → List ℕ → Type 0
Slots size n Holds lo hi memory = (j : ℕ) → lo ≤ j → j < hi → Holds j (slot_bytes size (j % n) memory)

-- the number of slots from `start` to `end`, both among them, in a ring of so many
abbrev pub range_length : ℕ → ℕ → ℕ → ℕ
range_length slots start end = (end + slots - start % slots) % slots + 1

-- no other slot of a ring of n slots than slot k was changed
pub record OneSlot (size n k : ℕ) (memory new : List ℕ) : Type 0 where
  pub long : length new ≡ length memory
  pub others : (i : ℕ) → i < n → i ≢ k → slot_bytes size i new ≡ slot_bytes size i memory
