-- The work of a server on descriptors: it fetches one and marks it ACCEPTED, does its units piece by piece, and gives it its status and
-- marks it DONE. All it reads and writes of the client's memory goes through cookies.
use Rattle.std.specs.Prelude.{◌≡◌, ℕ, ◌+◌, ◌-◌, ◌*◌, ◌/◌, ◌%◌, min, Bool, true, false, nat_lt, ◌==◌, if◌then◌else◌, List, [], length, slice_index, take, ◌⊎◌, Option, Some, None}
use Rattle.cookie_copy.specs.declared.fault.Access.TheVariants.{Read, Write}
use Rattle.cookie_copy.specs.declared.fault.CopyFault.{CopyFault}
use Rattle.cookie_copy.specs.Faults.{first_copy_fault}
use Rattle.cookie_copy.specs.Moved.{moved_in, moved_out}
use Rattle.dring.specs.declared.peer.RingFault.{RingFault}
use Rattle.dring.specs.declared.peer.RingFault.TheVariants as refused
use Rattle.dring.specs.Reaching.{RefusesFetch, ring_cookies}
use Rattle.dring.specs.Slots.{ready_state}
use Rattle.map_table.specs.declared.cookie.Cookie.{Cookie}
use Rattle.vdisk_msg.specs.Check.{first_defect}
use Rattle.vdisk_msg.specs.declared.desc.DescFault.{DescFault}
use Rattle.vdisk_msg.specs.declared.desc.DiskDesc.{DiskDesc}
use Rattle.vdisk_msg.specs.Descriptor as slot_says
use Rattle.vdisk_msg.specs.Pieces.{refusal_status, unit_count}
use Rattle.vdisk_msg.specs.Requested.{header, status_word}
use Rattle.vio_tag.specs.declared.cause.Cause.{Cause}
use Rattle.vio_tag.specs.declared.cause.Cause.TheVariants as the_cause
use Rattle.cookie_copy.specs.Reach.{Reach, copy_number}
use Rattle.lane_models.specs.ServerState.{Ends, Flushes, Gathers, Gives, Progress, Reads, ServerState, Work, Writes, peer_ring}

-- the cookies of the client's ring
abbrev pub slots_cookies : ServerState → List Cookie
slots_cookies s = ring_cookies (peer_ring s)

-- the slot of a descriptor's number
abbrev pub slot_at : ServerState → ℕ → ℕ
slot_at s number = number % s.handshake.draft.peer_slots

-- the bytes of a slot, and why they can't be fetched
abbrev pub slot_fetched : ServerState → Reach → ℕ → List ℕ
slot_fetched s reach slot = moved_in reach.table reach.memory (slots_cookies s) (128 * slot) 128

abbrev pub fetch_fault : ServerState → Reach → ℕ → Option CopyFault
fetch_fault s reach slot = first_copy_fault reach.both Read reach.table (slots_cookies s) (128 * slot) 128

-- why 8 bytes of a slot can't be written from a place on, and the memory with them
abbrev pub word_fault : ServerState → Reach → ℕ → ℕ → Option CopyFault
word_fault s reach slot at = first_copy_fault reach.both Write reach.table (slots_cookies s) (128 * slot + at) 8

abbrev pub with_word : ServerState → Reach → ℕ → ℕ → List ℕ → List ℕ
with_word s reach slot at word = moved_out reach.table reach.memory (slots_cookies s) (128 * slot + at) word

-- the header of a state, with the ack as it was fetched
abbrev pub header_of : ℕ → List ℕ → List ℕ
header_of state bytes = header state (slot_says.disk_desc_of bytes).ack

-- WHAT COMES FIRST of a descriptor: its status where it has a defect, else its first unit. The disk reads 1, writes 2 and flushes 3.
abbrev pub first_progress_of : ℕ → Progress
first_progress_of operation = if operation == 1 then Reads 0 else if operation == 2 then Gathers 0 else Flushes

abbrev pub checked_progress : Option DescFault → DiskDesc → Progress
checked_progress (Some fault) desc = Ends (refusal_status fault)
checked_progress None desc = first_progress_of desc.operation

abbrev pub first_progress : ℕ → DiskDesc → Progress
first_progress blocks desc = checked_progress (first_defect desc blocks 0x0e) desc

-- the next unit by its first piece, or the status 0 where there is none
abbrev pub reads_next : ℕ → ℕ → Progress
reads_next size unit = if nat_lt (unit + 1) (unit_count size) then Reads (unit + 1) else Ends 0

abbrev pub gathers_next : ℕ → ℕ → Progress
gathers_next size unit = if nat_lt (unit + 1) (unit_count size) then Gathers (unit + 1) else Ends 0

-- the bytes of a unit
abbrev pub unit_length : ℕ → ℕ → ℕ
unit_length size unit = min 8192 (size - 8192 * unit)

-- the descriptor in work, its cookies, and its first block of a unit, on the disk
abbrev pub desc_of : Work → DiskDesc
desc_of work = slot_says.disk_desc_of work.bytes

abbrev pub data_cookies : Work → List Cookie
data_cookies work = take (desc_of work).count (desc_of work).cookies

abbrev pub unit_block : Work → ℕ → ℕ
unit_block work unit = (desc_of work).offset + 16 * unit

abbrev pub length_of : Work → ℕ → ℕ
length_of work unit = unit_length (desc_of work).size unit

-- why a unit of so many bytes can't be copied
abbrev pub in_fault : Work → Reach → ℕ → Option CopyFault
in_fault work reach unit = first_copy_fault reach.both Read reach.table (data_cookies work) (8192 * unit) (length_of work unit)

abbrev pub out_fault : Work → Reach → ℕ → List ℕ → Option CopyFault
out_fault work reach unit bytes = first_copy_fault reach.both Write reach.table (data_cookies work) (8192 * unit) (length bytes)

-- A unit that is copied in, and one that is copied out: the progress after it, and the memory. A copy that is refused changes nothing,
-- and ends the descriptor with the status 22.
abbrev pub gathered : Option CopyFault → Work → Reach → ℕ → Progress
gathered (Some why) work reach unit = Ends 22
gathered None work reach unit = Writes unit (moved_in reach.table reach.memory (data_cookies work) (8192 * unit) (length_of work unit))

abbrev pub given : Option CopyFault → Work → ℕ → Progress
given (Some why) work unit = Ends 22
given None work unit = reads_next (desc_of work).size unit

abbrev pub given_memory : Option CopyFault → Work → Reach → ℕ → List ℕ → List ℕ
given_memory (Some why) work reach unit bytes = reach.memory
given_memory None work reach unit bytes = moved_out reach.table reach.memory (data_cookies work) (8192 * unit) bytes

abbrev pub MovesIn : Progress → Work → Reach → ℕ → Option CopyFault → Progress → List ℕ → Type 0
MovesIn (Gives u bytes) work reach unit fault next new =
    (unit ≡ u) × (fault ≡ out_fault work reach u bytes) × (next ≡ given fault work u) × (new ≡ given_memory fault work reach u bytes)
MovesIn (Gathers u) work reach unit fault next new =
    (unit ≡ u) × (fault ≡ in_fault work reach u) × (next ≡ gathered fault work reach u) × (new ≡ reach.memory)
MovesIn _ work reach unit fault next new = ⊥

-- A unit that is read or written on the store, with the bytes that the store gave, or a flush of it. A call that failed ends the
-- descriptor with the status 5.
abbrev pub or_ends : Bool → Progress → Progress
or_ends true next = Ends 5
or_ends false next = next

abbrev pub GaveUnit : Bool → Work → ℕ → List ℕ → Type 0
GaveUnit true work unit gave = gave ≡ []
GaveUnit false work unit gave = length gave ≡ length_of work unit

pub record StoresUnit (work : Work) (operation unit length : ℕ) (said_operation block count : ℕ) : Type 0 where
  pub operation_is : said_operation ≡ operation
  pub block_is : block ≡ unit_block work unit
  pub count_is : count ≡ length / 512

abbrev pub StoresIn : Progress → Work → ℕ → ℕ → ℕ → Bool → List ℕ → Progress → Type 0
StoresIn (Reads u) work operation block count failed gave next =
    StoresUnit work 1 u (length_of work u) operation block count × GaveUnit failed work u gave × (next ≡ or_ends failed (Gives u gave))
StoresIn (Writes u bytes) work operation block count failed gave next =
    StoresUnit work 2 u (length bytes) operation block count × (gave ≡ []) × (next ≡ or_ends failed (gathers_next (desc_of work).size u))
StoresIn Flushes work operation block count failed gave next =
    (operation ≡ 3) × (block ≡ 0) × (count ≡ 0) × (gave ≡ []) × (next ≡ or_ends failed (Ends 0))
StoresIn _ work operation block count failed gave next = ⊥

-- The end of a descriptor writes twice: the word with the status, and then the header DONE. Where the second alone is refused, the
-- memory has the word.
abbrev pub with_status : ServerState → Reach → ℕ → Work → ℕ → List ℕ
with_status s reach slot work status = with_word s reach slot 16 (status_word work.bytes status)

abbrev pub with_done : ServerState → Reach → ℕ → Work → ℕ → List ℕ
with_done s reach slot work status = with_word s (record reach { memory = with_status s reach slot work status }) slot 0 (header_of 4 work.bytes)

-- why an end resets itself at the end of a descriptor, and the memory then
abbrev pub EndFails : ServerState → Reach → ℕ → Work → ℕ → Cause → List ℕ → Type 0
EndFails s reach slot work status cause new =
    ((why : CopyFault) × (word_fault s reach slot 16 ≡ Some why) × (cause ≡ the_cause.Copy (copy_number why)) × (new ≡ reach.memory))
    ⊎ ((why : CopyFault) × (word_fault s reach slot 16 ≡ None) × (word_fault s reach slot 0 ≡ Some why)
    × (cause ≡ the_cause.Copy (copy_number why)) × (new ≡ with_status s reach slot work status))

-- why it does at a fetch: the copy's fault, a state that isn't READY, or the fault of marking it
abbrev pub cause_of : ℕ → RingFault → Cause
cause_of slot (refused.Copy why) = the_cause.Copy (copy_number why)
cause_of slot (refused.NotReady state) = the_cause.NotReady slot state

abbrev pub is_ready : List ℕ → Bool
is_ready bytes = slice_index bytes 0 == ready_state

abbrev pub CanFetch : ServerState → Reach → ℕ → Type 0
CanFetch s reach slot = (fetch_fault s reach slot ≡ None) × (is_ready (slot_fetched s reach slot) ≡ true)

abbrev pub FetchFails : ServerState → Reach → ℕ → Cause → Type 0
FetchFails s reach slot cause =
    ((why : RingFault) × RefusesFetch (fetch_fault s reach slot) (slot_fetched s reach slot) why × (cause ≡ cause_of slot why))
    ⊎ ((why : CopyFault) × CanFetch s reach slot × (word_fault s reach slot 0 ≡ Some why) × (cause ≡ the_cause.Copy (copy_number why)))
