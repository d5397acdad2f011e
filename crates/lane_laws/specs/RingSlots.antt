-- The slots of a client's ring in its memory: what the log of the ring says of each, in numbers and in bytes.
use Rattle.std.specs.Prelude.{◌≡◌, ℕ, ◌+◌, ◌-◌, ◌%◌, ◌^◌, ◌<◌, ◌≤◌, List, [], ◌∷◌, length, replicate, Option, Some, None, slice_get, slice_index, ⊤}
use Rattle.dring.specs.Slots.{accepted_state, done_state, free_state, ready_state, slot_bytes}
use Rattle.vdisk_msg.specs.declared.request.Request.{Request}
use Rattle.vdisk_msg.specs.Descriptor as slot_says
use Rattle.vdisk_msg.specs.Pieces.{Finishes, Moves, Piece, Stores}
use Rattle.vdisk_msg.specs.Requested.{descriptor_of}
use Rattle.vdisk_msg.specs.Requests.{defect}
use Rattle.lane_laws.specs.RingLog.{Accepted, Done, Free, Ready, SlotLog, Zeros}
use Rattle.lane_laws.specs.WorkLog.{ClientCounts, ServerCounts}

-- the ring of a disk: its blocks, its slots, and the requests that were accepted
pub record RingOf : Type 0 where
  pub blocks : ℕ
  pub slots : ℕ
  pub issued : List Request

-- these bytes are the descriptor of the request with this id, with a state and a status
pub record HoldsIssued (r : RingOf) (slot id state status : ℕ) (bytes : List ℕ) : Type 0 where
  pub request : Request
  pub accepted : slice_get r.issued id ≡ Some request
  pub admitted : defect r.blocks request ≡ None
  pub id_fits : id < 2 ^ 64
  pub status_fits : status < 2 ^ 32
  pub bytes_are : bytes ≡ slot_says.canonical (record (descriptor_of id request slot r.slots) { state = state; status = status })

-- THE BYTES of a slot: READY, ACCEPTED, DONE with its status; of a free one its state alone
abbrev pub SlotHolds : RingOf → ℕ → SlotLog → List ℕ → Type 0
SlotHolds r slot Zeros bytes = bytes ≡ replicate 128 0
SlotHolds r slot Free bytes = slice_index bytes 0 ≡ free_state
SlotHolds r slot (Ready id) bytes = HoldsIssued r slot id ready_state 0 bytes
SlotHolds r slot (Accepted id) bytes = HoldsIssued r slot id accepted_state 0 bytes
SlotHolds r slot (Done id status) bytes = HoldsIssued r slot id done_state status bytes

pub record RingHolds (r : RingOf) (ring : List SlotLog) (memory : List ℕ) : Type 0 where
  pub long : length ring ≡ r.slots
  pub each : (slot : ℕ) (is : SlotLog) → slice_get ring slot ≡ Some is → SlotHolds r slot is (slot_bytes 128 slot memory)

-- THE NUMBERS: an id in a slot was published in the open session, isn't done, and stands where its number says
pub record IdStands (slots done : ℕ) (c : ClientCounts) (slot id : ℕ) : Type 0 where
  pub based : c.base ≤ done
  pub since : done ≤ id
  pub below : id < c.base + c.published
  pub slot_is : slot ≡ (id - c.base) % slots

abbrev pub SlotStands : ℕ → ℕ → ClientCounts → ℕ → SlotLog → Type 0
SlotStands slots done c slot Zeros = ⊤
SlotStands slots done c slot Free = ⊤
SlotStands slots done c slot (Ready id) = IdStands slots done c slot id
SlotStands slots done c slot (Accepted id) = IdStands slots done c slot id
SlotStands slots done c slot (Done id status) = IdStands slots done c slot id

abbrev pub IdsStand : ℕ → ℕ → List SlotLog → Option ClientCounts → Type 0
IdsStand slots done ring None = ⊤
IdsStand slots done ring (Some c) = (slot : ℕ) (is : SlotLog) → slice_get ring slot ≡ Some is → SlotStands slots done c slot is

-- a status that is owed has 4 bytes
abbrev pub OwesStatus : List Piece → Type 0
OwesStatus [] = ⊤
OwesStatus (Finishes status ∷ rest) = (status < 2 ^ 32) × OwesStatus rest
OwesStatus (Moves unit ∷ rest) = OwesStatus rest
OwesStatus (Stores unit ∷ rest) = OwesStatus rest

abbrev pub StatusStands : Option ServerCounts → Type 0
StatusStands None = ⊤
StatusStands (Some d) = OwesStatus d.owed

-- the descriptor in work stands ACCEPTED in its slot, as it was fetched but for its state
pub record InWork (r : RingOf) (ring : List SlotLog) (d : ServerCounts) : Type 0 where
  pub id : ℕ
  pub stands : slice_get ring (d.finished % r.slots) ≡ Some (Accepted id)
  pub fetched : HoldsIssued r (d.finished % r.slots) id 2 0 d.desc

abbrev pub WorkStands : RingOf → List SlotLog → Option ServerCounts → Type 0
WorkStands r ring None = ⊤
WorkStands r ring (Some d) = d.descs ≡ d.finished + 1 → InWork r ring d

-- A MEMORY whose slots are all as they were
pub record SameSlots (slots : ℕ) (memory new : List ℕ) : Type 0 where
  pub long : length new ≡ length memory
  pub each : (slot : ℕ) → slot < slots → slot_bytes 128 slot new ≡ slot_bytes 128 slot memory
