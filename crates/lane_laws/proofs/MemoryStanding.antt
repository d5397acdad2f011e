-- The client's memory keeps its length at each event, also where somebody forges, and the requests that are pending were admitted.
use Rattle.std.proofs.Common.{◌≡◌, ℕ, ◌+◌, ◌*◌, ◌≤◌, ◌<◌, Option, None, List, [], ◌∷◌, length, map, refl, ◌∙◌, arith}
use Rattle.std.specs.Prelude.{zero, suc}
use Rattle.cookie_copy.proofs.Steps.{length-write_spots}
use Rattle.cookie_copy.specs.Moved.{moved_out, moved_spots, place_of}
use Rattle.dring.specs.Slots.{free_slots, free_state}
use Rattle.map_table.specs.declared.cookie.Cookie.{Cookie}
use Rattle.map_table.specs.declared.table.Entry.{Entry}
use Rattle.vdisk_msg.proofs.Repeated.{length-repeated}
use Rattle.vdisk_msg.proofs.Written.{is_admitted}
use Rattle.vdisk_msg.specs.declared.request.Request.{Request}
use Rattle.vdisk_msg.specs.Descriptor as slot_says
use Rattle.vdisk_msg.specs.Requested.{buffer_cookies, buffer_place, descriptor_of, size_of}
use Rattle.vdisk_msg.specs.Requests.{defect, given_count}
use Rattle.vio_bytes.proofs.Putting.{length-put_at}
use Rattle.vio_bytes.specs.Place.{put_at}
use Rattle.lane_models.specs.ClientStep.{filled_buffer, published_memory}
use Rattle.lane_models.specs.ServerState.{ServerState}
use Rattle.cookie_copy.specs.Reach.{Reach}
use Rattle.lane_models.specs.ServerWork.{slots_cookies, with_word}
use Rattle.lane_laws.specs.MemoryStands.{memory_long}

-- WRITES THROUGH COOKIES keep the length
pub moved_long : (table : List (Option Entry)) (memory : List ℕ) (cookies : List Cookie) (offset : ℕ) (bytes : List ℕ) → length (moved_out table memory cookies offset bytes) ≡ length memory
moved_long table memory cookies offset bytes = length-write_spots (map (place_of table) (moved_spots cookies offset (length bytes))) bytes memory

pub word_long : (s : ServerState) (reach : Reach) (slot at : ℕ) (word : List ℕ) → length (with_word s reach slot at word) ≡ length reach.memory
word_long s reach slot at word = moved_long reach.table reach.memory (slots_cookies s) (128 * slot + at) word

-- THE CLIENT'S OWN WRITES are within it
free_long : (slots : ℕ) → length (free_slots 128 slots) ≡ 128 * slots
free_long zero = refl
free_long (suc slots) = omega (arith, free_long slots)

pub cleared_long : (slots : ℕ) (memory : List ℕ) → length memory ≡ memory_long slots → length (put_at 0 (free_slots 128 slots) memory) ≡ length memory
cleared_long slots memory long = length-put_at 0 (free_slots 128 slots) memory (omega (arith, long, free_long slots))

pub freed_long : (slots slot : ℕ) (memory : List ℕ) → slot < slots → length memory ≡ memory_long slots → length (put_at (128 * slot) (free_state ∷ []) memory) ≡ length memory
freed_long slots slot memory below long = length-put_at (128 * slot) (free_state ∷ []) memory (omega (arith, below, long))

pub desc_long : (id : ℕ) (request : Request) (slot slots : ℕ) → length (slot_says.canonical (descriptor_of id request slot slots)) ≡ 128
unfolding descriptor_of buffer_cookies
desc_long id request slot slots = omega arith

admitted_size : (blocks : ℕ) (request : Request) → defect blocks request ≡ None → size_of request ≤ 32768
admitted_size blocks request none = (is_admitted blocks request none).most

pub filled_long : (request : Request) (slots slot : ℕ) (memory : List ℕ) → size_of request ≤ 32768 → slot < slots → length memory ≡ memory_long slots
    → length (filled_buffer request (buffer_place slots slot) memory) ≡ length memory
filled_long request slots slot memory few below long = grind (arith, length-put_at, length-repeated)

pub published_long : (blocks slots slot id : ℕ) (request : Request) (memory : List ℕ) → defect blocks request ≡ None → slot < slots → length memory ≡ memory_long slots
    → length (published_memory slots slot id request memory) ≡ length memory
published_long blocks slots slot id request memory none below long =
    let filled = filled_long request slots slot memory (admitted_size blocks request none) below long in
    length-put_at (128 * slot) (slot_says.canonical (descriptor_of id request slot slots)) (filled_buffer request (buffer_place slots slot) memory)
    (omega (arith, desc_long id request slot slots, filled, below, long)) ∙ filled

-- what a read gives is within it too
pub given_within : (blocks slots slot : ℕ) (request : Request) (memory : List ℕ) → defect blocks request ≡ None → slot < slots → length memory ≡ memory_long slots
    → buffer_place slots slot + given_count request ≤ length memory
given_within blocks slots slot request memory none below long = grind arith
