-- The room that a disk's ring and its buffers take in the client's memory.
use Rattle.std.specs.Prelude.{ℕ, ◌+◌, ◌*◌, ◌≤◌, List, length}
use Rattle.vdisk_msg.specs.Requested.{ring_pages}

-- the memory has the pages of a ring of so many slots, and the four pages of each slot
abbrev pub HoldsRing : ℕ → List ℕ → Type 0
HoldsRing slots memory = 8192 * (ring_pages slots + 4 * slots) ≤ length memory
