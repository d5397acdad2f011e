-- The state of a port's lane: the wire, its two ends, the memory of each, and the table that grants it to the other.
use Rattle.std.specs.Prelude.{◌≡◌, ℕ, ◌*◌, ◌<◌, ◌≤◌, List, length, replicate, Option}
use Rattle.std.specs.List.{AllByRecursion}
use Rattle.ldc_link.specs.declared.phase.Role.{Role}
use Rattle.ldc_link.specs.declared.phase.Role.TheVariants.{Initiator, Responder}
use Rattle.ldc_queue.specs.declared.end.End.{End}
use Rattle.ldc_queue.specs.declared.end.End.TheVariants.{A, B}
use Rattle.map_table.specs.declared.table.Entry.{Entry}
use Rattle.vnet_msg.specs.Frames.{memory_pages}
use Rattle.vio_bytes.specs.Powers.{IsPowerOfTwo}
use Rattle.lane_models.specs.OwnMemory.{own_table}
use Rattle.lane_models.specs.Seeing.{Seen, seen}
use Rattle.cookie_copy.specs.Reach.{Reach}
use Rattle.lane_models.specs.WireLog.{WireLog, nothing_on_wire}
use Rattle.lane_models.specs.NetEndState.{NetEndState, fresh_net_end}
use Rattle.lane_models.specs.NetEndStep.{NetLeft}

-- a port with this address, with rings of so many slots and queues of so many entries
pub record NetShape : Type 0 where
  pub address : List ℕ
  pub slots : ℕ
  pub entries : ℕ

pub record IsNetShape (shape : NetShape) : Type 0 where
  pub address : length shape.address ≡ 6
  pub bytes : AllByRecursion (λ (byte : ℕ). byte < 256) shape.address
  pub some_slots : 2 ≤ shape.slots
  pub most_slots : shape.slots ≤ 64
  pub slots : IsPowerOfTwo shape.slots
  pub some_entries : 8 ≤ shape.entries
  pub most_entries : shape.entries ≤ 256
  pub entries : IsPowerOfTwo shape.entries

pub record NetLaneState : Type 0 where
  pub shape : NetShape
  -- the ends' states, what waits for each, `forged` and `lossy`
  pub wire : WireLog
  -- the guest's end is A, the switch's B
  pub guest : NetEndState
  pub hub : NetEndState
  pub guest_memory : List ℕ
  pub hub_memory : List ℕ
  -- each grants the memory of its own end to the other
  pub guest_table : List (Option Entry)
  pub hub_table : List (Option Entry)

-- no end is configured, and nothing was given, over memories and tables
abbrev pub fresh_net_over : NetShape → (guest_memory hub_memory : List ℕ) → (guest_table hub_table : List (Option Entry)) → NetLaneState
fresh_net_over shape guest_memory hub_memory guest_table hub_table = record {
  shape = shape;
  wire = nothing_on_wire;
  guest = fresh_net_end Initiator shape.address shape.slots;
  hub = fresh_net_end Responder shape.address shape.slots;
  guest_memory = guest_memory;
  hub_memory = hub_memory;
  guest_table = guest_table;
  hub_table = hub_table;
}

-- the memories are zeros, and each page is granted at its own index
abbrev pub fresh_memory : NetShape → List ℕ
fresh_memory shape = replicate (8192 * memory_pages shape.slots) 0

abbrev pub fresh_table : NetShape → List (Option Entry)
fresh_table shape = own_table (memory_pages shape.slots)

abbrev pub fresh_net : NetShape → NetLaneState
fresh_net shape = fresh_net_over shape (fresh_memory shape) (fresh_memory shape) (fresh_table shape) (fresh_table shape)

-- AN END of the lane
abbrev pub role_at : End → Role
role_at A = Initiator
role_at B = Responder

abbrev pub net_end : End → NetLaneState → NetEndState
net_end A s = s.guest
net_end B s = s.hub

abbrev pub with_net_end : End → NetEndState → NetLaneState → NetLaneState
with_net_end A guest s = record s { guest = guest }
with_net_end B hub s = record s { hub = hub }

abbrev pub memory_of : End → NetLaneState → List ℕ
memory_of A s = s.guest_memory
memory_of B s = s.hub_memory

abbrev pub with_memory : End → List ℕ → NetLaneState → NetLaneState
with_memory A memory s = record s { guest_memory = memory }
with_memory B memory s = record s { hub_memory = memory }

-- what it sees of the channel, and what its copies work on: the other end's table and memory
abbrev pub seen_at : End → NetLaneState → Seen
seen_at e s = seen e s.shape.entries s.wire.wire

abbrev pub reach_of : End → NetLaneState → Reach
reach_of A s = record { both = (seen_at A s).both; table = s.hub_table; memory = s.hub_memory }
reach_of B s = record { both = (seen_at B s).both; table = s.guest_table; memory = s.guest_memory }

-- what a step of it leaves
abbrev pub with_left : End → NetLeft → NetLaneState → NetLaneState
with_left A left s = record s { guest = left.end; guest_memory = left.own; hub_memory = left.peer }
with_left B left s = record s { hub = left.end; hub_memory = left.own; guest_memory = left.peer }
