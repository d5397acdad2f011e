-- The state of a disk's lane: the wire, its two ends, the client's memory and the table that grants it to the server. The image isn't in
-- it: steps say what the store gave.
use Rattle.std.specs.Prelude.{ℕ, ◌+◌, ◌-◌, ◌*◌, ◌^◌, ◌≤◌, min, Bool, false, List, replicate, Option}
use Rattle.map_table.specs.declared.table.Entry.{Entry}
use Rattle.vdisk_msg.specs.Requested.{ring_pages}
use Rattle.lane_models.specs.WireLog.{WireLog, nothing_on_wire}
use Rattle.vio_bytes.specs.Powers.{IsPowerOfTwo}
use Rattle.lane_models.specs.OwnMemory.{own_table}
use Rattle.lane_models.specs.ClientState.{ClientState, ever_published_count, fresh_client}
use Rattle.lane_models.specs.ServerState.{ServerState, fresh_server}

-- a disk of so many blocks, from this block of the image on, with a ring of so many slots and queues of so many entries
pub record Shape : Type 0 where
  pub first : ℕ
  pub blocks : ℕ
  pub slots : ℕ
  pub entries : ℕ

pub record IsShape (shape : Shape) : Type 0 where
  pub some_blocks : 1 ≤ shape.blocks
  pub most_blocks : shape.blocks ≤ 65536
  pub some_slots : 2 ≤ shape.slots
  pub most_slots : shape.slots ≤ 256
  pub slots : IsPowerOfTwo shape.slots
  pub some_entries : 8 ≤ shape.entries
  pub most_entries : shape.entries ≤ 256
  pub entries : IsPowerOfTwo shape.entries

-- How near the image is to the content of the requests that are done: of the pending requests the server finished the first k in this
-- session, and stored the first u blocks of the write after them; the first m were published in an earlier session.
pub record NearCounts : Type 0 where
  pub k : ℕ
  pub m : ℕ
  pub u : ℕ

pub record LaneState : Type 0 where
  pub shape : Shape
  -- the ends' states, what waits for each, `forged` and `lossy`
  pub wire : WireLog
  pub client : ClientState
  pub server : ServerState
  pub memory : List ℕ
  pub table : List (Option Entry)
  -- the server is stopped; a call of its store failed
  pub stopped : Bool
  pub failed : Bool
  pub near : NearCounts

-- the pages of the ring and of each slot's buffer, and each granted at its own index
abbrev pub pages_of : Shape → ℕ
pages_of shape = ring_pages shape.slots + 4 * shape.slots

abbrev pub nothing_near : NearCounts
nothing_near = record { k = 0; m = 0; u = 0 }

-- no end is configured, nothing was asked and nothing is stopped, over a memory and a table
abbrev pub fresh_over : Shape → List ℕ → List (Option Entry) → LaneState
fresh_over shape memory table = record {
  shape = shape;
  wire = nothing_on_wire;
  client = fresh_client shape.blocks shape.slots;
  server = fresh_server shape.first shape.blocks shape.slots;
  memory = memory;
  table = table;
  stopped = false;
  failed = false;
  near = nothing_near;
}

-- the memory is zeros, and each of its pages is granted
abbrev pub fresh : Shape → LaneState
fresh shape = fresh_over shape (replicate (8192 * pages_of shape) 0) (own_table (pages_of shape))

-- a count that rises stands still at the last value of its type
abbrev pub risen : ℕ → ℕ → ℕ
risen n count = min (n + count) (2 ^ 32 - 1)

-- after a completion, a descriptor that got its status, and a reset or stop of an end
abbrev pub near_done : NearCounts → NearCounts
near_done n = record { k = n.k - 1; m = n.m - 1; u = n.u }

abbrev pub near_finished : NearCounts → NearCounts
near_finished n = record { k = risen n.k 1; m = n.m; u = 0 }

abbrev pub near_disturbed : ClientState → NearCounts
near_disturbed c = record { k = 0; m = ever_published_count c; u = 0 }
