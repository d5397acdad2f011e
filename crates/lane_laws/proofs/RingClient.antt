-- What a client's events do to the ring: a request is published in a free slot, a done one's slot is freed, and all are as the session
-- opens.
use Rattle.std.proofs.Common.{◌≡◌, ℕ, ◌*◌, ◌<◌, ◌≤◌, List, [], ◌∷◌, length, None, inr, refl, ap, ◌∙◌, arith}
use Rattle.std.specs.Prelude.{drop, slice_index}
use Rattle.dring.proofs.Laps.{one_slot_front, slot_cleared, slot_front, slot_reads_back}
use Rattle.dring.specs.Slots.{free_slots, free_state, slot_bytes}
use Rattle.vdisk_msg.proofs.Repeated.{length-repeated}
use Rattle.vdisk_msg.proofs.Written.{is_admitted}
use Rattle.vdisk_msg.specs.declared.request.Request.{Request}
use Rattle.vdisk_msg.specs.declared.request.Request.TheVariants.{Flush, Read, Write}
use Rattle.vdisk_msg.specs.Descriptor as slot_says
use Rattle.vdisk_msg.specs.Requested.{buffer_place, descriptor_of, size_of}
use Rattle.vdisk_msg.specs.Requests.{defect, written}
use Rattle.vio_bytes.specs.Place.{put_at}
use Rattle.lane_models.specs.ClientStep.{filled_buffer, published_memory}
use Rattle.lane_laws.proofs.MemoryStanding.{desc_long}
use Rattle.lane_laws.proofs.RingWrites.{behind_ring, equal_slots, one_after_same}
use Rattle.lane_laws.specs.MemoryStands.{memory_long}
use Rattle.lane_laws.specs.RingSlots.{SameSlots}
use Rattle.lane_laws.specs.SlotsWritten.{FreesSlot, PublishesSlot, buffered, buffers}
use Rattle.lane_laws.proofs.BehindRing.{freed_behind, published_behind}
use Rattle.lane_laws.proofs.Changes.{filled}

ring_room : (slots : ℕ) (memory : List ℕ) → length memory ≡ memory_long slots → 128 * slots ≤ length memory
ring_room slots memory long = omega (arith, long)

-- a write's bytes go after the ring
filled_behind : (request : Request) (slots slot : ℕ) (memory : List ℕ) → size_of request ≤ 32768 → slot < slots → length memory ≡ memory_long slots
    → SameSlots slots memory (filled_buffer request (buffer_place slots slot) memory)
filled_behind (Read block count) slots slot memory few below long = equal_slots slots memory memory refl
filled_behind (Write block count fill) slots slot memory few below long =
    behind_ring slots (buffer_place slots slot) (written fill count) memory (omega arith) (omega (arith, length-repeated fill 0 (512 * count), few, below, long))
filled_behind Flush slots slot memory few below long = equal_slots slots memory memory refl

same_filled : (request : Request) (slot : ℕ) (there : List ℕ) → filled request (32768 * slot) there ≡ buffered request slot there
same_filled (Read block count) slot there = refl
same_filled _ slot there = refl

-- A REQUEST IS PUBLISHED: its slot is its descriptor, and no other slot changes
pub publishes_slot : (blocks slots slot id : ℕ) (request : Request) (memory : List ℕ) → defect blocks request ≡ None → slot < slots → length memory ≡ memory_long slots
    → PublishesSlot slots slot id request memory (published_memory slots slot id request memory)
publishes_slot blocks slots slot id request memory none below long =
    let filled = filled_buffer request (buffer_place slots slot) memory in
    let same = filled_behind request slots slot memory (is_admitted blocks request none).most below long in
    let desc = slot_says.canonical (descriptor_of id request slot slots) in
    let whole = desc_long id request slot slots in
    let room : 128 * slots ≤ length filled = omega (arith, same.long, ring_room slots memory long) in
    record {
      one = one_after_same slots slot memory filled (published_memory slots slot id request memory) same (one_slot_front 128 slots slot desc filled below (omega (arith, whole)) room);
      there = slot_reads_back 128 slots slot desc filled below whole room;
      buffer = published_behind request slots slot id memory (is_admitted blocks request none).most below long ∙ same_filled request slot (buffers slots memory);
    }

-- A SLOT IS FREED: its state, no other byte of it, and no other slot
free_byte : (bytes : List ℕ) → slice_index (put_at 0 (free_state ∷ []) bytes) 0 ≡ free_state
free_byte bytes = refl

other_bytes : (bytes : List ℕ) → drop 1 (put_at 0 (free_state ∷ []) bytes) ≡ drop 1 bytes
other_bytes bytes = refl

pub frees_slot : (slots slot : ℕ) (memory : List ℕ) → slot < slots → length memory ≡ memory_long slots → FreesSlot slots slot memory (put_at (128 * slot) (free_state ∷ []) memory)
frees_slot slots slot memory below long =
    let room = ring_room slots memory long in
    let front = slot_front 128 slots slot (free_state ∷ []) memory below (omega arith) room in
    record {
      one = one_slot_front 128 slots slot (free_state ∷ []) memory below (omega arith) room;
      there = ap (λ (bytes : List ℕ). slice_index bytes 0) front ∙ free_byte (slot_bytes 128 slot memory);
      rest = ap (drop 1) front ∙ other_bytes (slot_bytes 128 slot memory);
      buffers_stay = freed_behind slots slot memory below long;
    }

-- THE RING IS CLEARED
pub cleared_slot : (slots slot : ℕ) (memory : List ℕ) → slot < slots → slice_index (slot_bytes 128 slot (put_at 0 (free_slots 128 slots) memory)) 0 ≡ free_state
cleared_slot slots slot memory below = ap (λ (bytes : List ℕ). slice_index bytes 0) (slot_cleared 128 slots slot memory (inr refl) below)
