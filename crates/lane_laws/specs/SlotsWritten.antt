-- What a client writes into its ring, one slot at a time, also where somebody forges packets and memory.
use Rattle.std.specs.Prelude.{◌≡◌, ℕ, ◌-◌, ◌*◌, ◌<◌, List, Some, drop, slice_get, slice_index}
use Rattle.dring.specs.Slots.{OneSlot, done_state, free_slot, free_state, slot_bytes}
use Rattle.vdisk_msg.specs.Check.{most_bytes}
use Rattle.vdisk_msg.specs.declared.request.Request.{Request}
use Rattle.vdisk_msg.specs.Descriptor.{canonical, disk_desc_of}
use Rattle.vdisk_msg.specs.declared.request.Request.TheVariants.{Flush, Read, Write}
use Rattle.vdisk_msg.specs.Requested.{descriptor_of, ring_pages}
use Rattle.vdisk_msg.specs.Requests.{written}
use Rattle.vio_bytes.specs.Place.{put_at}
use Rattle.lane_models.specs.ClientState.{ClientSession, slot_in}
use Rattle.lane_models.specs.LaneState.{LaneState}

-- what stands behind the pages of the ring: the buffers of the slots, 32 kB each; and these with a write's bytes in one of them
abbrev pub buffers : ℕ → List ℕ → List ℕ
buffers slots memory = drop (8192 * ring_pages slots) memory

abbrev pub buffered : Request → ℕ → List ℕ → List ℕ
buffered (Read block count) slot there = there
buffered (Write block count fill) slot there = put_at (most_bytes * slot) (written fill count) there
buffered Flush slot there = there

-- a slot is the descriptor of a request, and no other slot changed; nor did any buffer, but that of the slot, where the request is a write
pub record PublishesSlot (slots slot id : ℕ) (request : Request) (memory new : List ℕ) : Type 0 where
  pub one : OneSlot 128 slots slot memory new
  pub there : slot_bytes 128 slot new ≡ canonical (descriptor_of id request slot slots)
  pub buffer : buffers slots new ≡ buffered request slot (buffers slots memory)

-- a slot is FREE, its other bytes are as they were, and no other slot and no buffer changed
pub record FreesSlot (slots slot : ℕ) (memory new : List ℕ) : Type 0 where
  pub one : OneSlot 128 slots slot memory new
  pub there : slice_index (slot_bytes 128 slot new) 0 ≡ free_state
  pub rest : drop 1 (slot_bytes 128 slot new) ≡ drop 1 (slot_bytes 128 slot memory)
  pub buffers_stay : buffers slots new ≡ buffers slots memory

-- the next pending request is published in the slot of its number
pub record SlotPublished (s : LaneState) (id : ℕ) (t : LaneState) : Type 0 where
  pub session : ClientSession
  pub request : Request
  pub open_is : s.client.session ≡ Some session
  pub next : slice_get s.client.pending (session.published - session.completed) ≡ Some request
  pub slot : PublishesSlot s.client.slots (slot_in s.client session.published) id request s.memory t.memory

-- the slot of the first that isn't done was DONE, with the status of the completion, and is FREE
pub record SlotFreed (s : LaneState) (status : ℕ) (t : LaneState) : Type 0 where
  pub session : ClientSession
  pub open_is : s.client.session ≡ Some session
  pub done : (disk_desc_of (slot_bytes 128 (slot_in s.client session.completed) s.memory)).state ≡ done_state
  pub status_is : status ≡ (disk_desc_of (slot_bytes 128 (slot_in s.client session.completed) s.memory)).status
  pub slot : FreesSlot s.client.slots (slot_in s.client session.completed) s.memory t.memory

-- each slot holds nothing, and no buffer changed
pub record SlotsCleared (s t : LaneState) : Type 0 where
  pub each : (slot : ℕ) → slot < t.client.slots → slot_bytes 128 slot t.memory ≡ free_slot 128
  pub buffers_stay : buffers t.client.slots t.memory ≡ buffers t.client.slots s.memory
