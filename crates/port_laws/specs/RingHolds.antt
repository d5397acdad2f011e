-- The ring of an end of a port in the end's own memory, where nobody meddles: its published frames that aren't acknowledged stand in their
-- slots, and all other slots are FREE.
use Rattle.std.specs.Prelude.{◌≡◌, ℕ, ◌+◌, ◌-◌, ◌%◌, ◌<◌, ◌≤◌, List, length, Some, slice_get}
use Rattle.dring.specs.Slots.{done_state, free_state, ready_state, slot_bytes}
use Rattle.vio_bytes.specs.Range.{range_at}
use Rattle.vnet_msg.specs.declared.desc.NetDesc.{NetDesc}
use Rattle.vnet_msg.specs.Descriptor.{canonical}
use Rattle.vnet_msg.specs.Frames.{IsFrame, buffer_place, frame_buffer, frame_desc, moved_size}
use Rattle.lane_models.specs.NetEndTaking.{slot_state}

-- A FRAME IN A SLOT: the slot has its descriptor, in this state, and the slot's buffer its bytes
abbrev pub desc_in : (state slot size : ℕ) → NetDesc
desc_in state slot size = record (frame_desc slot size) { state = state }

pub record SlotHolds (memory : List ℕ) (slot state : ℕ) (frame : List ℕ) : Type 0 where
  pub is_frame : IsFrame frame
  pub desc : slot_bytes 64 slot memory ≡ canonical (desc_in state slot (length frame))
  pub buffer : range_at (buffer_place slot) (moved_size (length frame)) memory ≡ frame_buffer frame

-- THE SLOT of the session's frame number j: DONE where the peer took it, READY where it is published, else FREE. The first frame that is
-- held is the first that isn't acknowledged.
pub record SlotOf (slots seen taken published : ℕ) (frames : List (List ℕ)) (memory : List ℕ) (j : ℕ) : Type 0 where
  pub done : j < taken → (frame : List ℕ) → slice_get frames (j - seen) ≡ Some frame → SlotHolds memory (j % slots) done_state frame
  pub ready : taken ≤ j → j < published → (frame : List ℕ) → slice_get frames (j - seen) ≡ Some frame → SlotHolds memory (j % slots) ready_state frame
  pub free : published ≤ j → slot_state (j % slots) memory ≡ free_state

-- THE RING, of which one lap from the first frame that isn't acknowledged has all slots
pub record RingHolds (slots seen taken published : ℕ) (frames : List (List ℕ)) (memory : List ℕ) : Type 0 where
  pub seen_first : seen ≤ taken
  pub taken_first : taken ≤ published
  pub held : published ≤ seen + length frames
  pub lap : published ≤ seen + slots
  pub each : (j : ℕ) → seen ≤ j → j < seen + slots → SlotOf slots seen taken published frames memory j
