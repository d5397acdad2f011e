-- The client's memory and the requests that are pending, also where somebody forges: the memory has its length, and each request was
-- admitted, so that what is written and read of it for them lies within.
use Rattle.std.specs.Prelude.{◌≡◌, ℕ, ◌+◌, ◌*◌, ◌≤◌, length}
use Rattle.vdisk_msg.specs.Requested.{ring_pages}
use Rattle.vdisk_msg.specs.Requests.{AreSound}
use Rattle.lane_models.specs.LaneState.{LaneState}

-- the bytes of the ring's pages and of each slot's buffer
abbrev pub memory_long : ℕ → ℕ
memory_long slots = 8192 * (ring_pages slots + 4 * slots)

pub record MemoryStands (s : LaneState) : Type 0 where
  pub some : 1 ≤ s.client.slots
  pub long : length s.memory ≡ memory_long s.client.slots
  pub sound : AreSound s.client.blocks s.client.pending
