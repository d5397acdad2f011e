-- What an end finds in the next slot of the peer's ring. All that it reads and writes of the peer's memory goes through
-- cookies.
use Rattle.std.specs.Prelude.{ℕ, ◌*◌, ◌==◌, if◌then◌else◌, List, slice_index, take, Option, Some, None}
use Rattle.cookie_copy.specs.declared.fault.Access.TheVariants.{Read, Write}
use Rattle.cookie_copy.specs.declared.fault.CopyFault.{CopyFault}
use Rattle.cookie_copy.specs.Faults.{first_copy_fault}
use Rattle.cookie_copy.specs.Moved.{moved_in, moved_out}
use Rattle.dring.specs.Reaching.{ring_cookies}
use Rattle.dring.specs.Slots.{ready_state}
use Rattle.map_table.specs.declared.cookie.Cookie.{Cookie}
use Rattle.vio_tag.specs.declared.cause.Cause.{Cause}
use Rattle.vio_tag.specs.declared.cause.Cause.TheVariants as the_cause
use Rattle.vnet_msg.specs.declared.desc.NetDesc.{NetDesc}
use Rattle.vnet_msg.specs.Descriptor.{net_desc_of}
use Rattle.vnet_msg.specs.Frames.{frame_in, header, holds_frame, moved_size}
use Rattle.cookie_copy.specs.Reach.{Reach, copy_number}
use Rattle.lane_models.specs.NetEndState.{NetEndState, peer_ring}

-- a frame, and the peer's memory with its descriptor marked DONE; a state other than READY; or why the end resets
-- itself
pub data Fetched : Type 0 where
  IsFrame : (frame : List ℕ) (new : List ℕ) → Fetched
  NotReady : (state : ℕ) → Fetched
  Refuses : Cause → Fetched

-- the cookies of the peer's ring, and those of a frame's buffer
abbrev pub slots_cookies : NetEndState → List Cookie
slots_cookies s = ring_cookies (peer_ring s)

abbrev pub data_cookies : NetDesc → List Cookie
data_cookies desc = take desc.count desc.cookies

abbrev pub copy_refused : CopyFault → Fetched
copy_refused why = Refuses (the_cause.Copy (copy_number why))

-- the descriptor is marked DONE, with the ack as it was fetched; where that is refused, no frame was taken
abbrev pub marked : NetEndState → Reach → ℕ → NetDesc → List ℕ → Option CopyFault → Fetched
marked s reach slot desc frame (Some why) = copy_refused why
marked s reach slot desc frame None = IsFrame frame (moved_out reach.table reach.memory (slots_cookies s) (64 * slot) (header 4 desc.ack))

abbrev pub mark_fault : NetEndState → Reach → ℕ → Option CopyFault
mark_fault s reach slot = first_copy_fault reach.both Write reach.table (slots_cookies s) (64 * slot) 8

-- the frame is copied out of its buffer, behind six bytes that aren't its own
abbrev pub copied : NetEndState → Reach → ℕ → NetDesc → Option CopyFault → Fetched
copied s reach slot desc (Some why) = copy_refused why
copied s reach slot desc None =
    marked s reach slot desc (frame_in desc.size (moved_in reach.table reach.memory (data_cookies desc) 0 (moved_size desc.size))) (mark_fault s reach slot)

abbrev pub frame_fault : Reach → NetDesc → Option CopyFault
frame_fault reach desc = first_copy_fault reach.both Read reach.table (data_cookies desc) 0 (moved_size desc.size)

-- a READY descriptor is that of a frame, or its size or its cookies refuse it
abbrev pub described : NetEndState → Reach → ℕ → NetDesc → Fetched
described s reach slot desc =
    if holds_frame desc then copied s reach slot desc (frame_fault reach desc) else Refuses (the_cause.Frame desc.size desc.count)

abbrev pub read : NetEndState → Reach → ℕ → List ℕ → Fetched
read s reach slot bytes = if slice_index bytes 0 == ready_state then described s reach slot (net_desc_of bytes) else NotReady (slice_index bytes 0)

abbrev pub slot_read : NetEndState → Reach → ℕ → Option CopyFault → Fetched
slot_read s reach slot (Some why) = copy_refused why
slot_read s reach slot None = read s reach slot (moved_in reach.table reach.memory (slots_cookies s) (64 * slot) 64)

-- WHAT IT FINDS in a slot: each copy is tested before the next
abbrev pub fetched : NetEndState → Reach → ℕ → Fetched
fetched s reach slot = slot_read s reach slot (first_copy_fault reach.both Read reach.table (slots_cookies s) (64 * slot) 64)
