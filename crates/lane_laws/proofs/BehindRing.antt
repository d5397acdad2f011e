-- What writes to a client's memory do after its ring.
use Rattle.std.proofs.Common.{◌≡◌, ℕ, ◌+◌, ◌-◌, ◌*◌, ◌<◌, ◌≤◌, List, [], ◌∷◌, drop, take, length, refl, sym, ap, ◌∙◌, arith, length-drop, inr, None}
use Rattle.std.proofs.lemmas.List.{drop-drop, take_all}
use Rattle.dring.proofs.Laps.{length-free_slots, slot_fits}
use Rattle.dring.specs.Slots.{free_slots, free_state}
use Rattle.vdisk_msg.proofs.Repeated.{length-repeated}
use Rattle.vdisk_msg.specs.declared.request.Request.{Request}
use Rattle.vdisk_msg.specs.declared.request.Request.TheVariants.{Flush, Read, Write}
use Rattle.vdisk_msg.specs.Check.{most_bytes}
use Rattle.vdisk_msg.specs.Descriptor as slot_says
use Rattle.vdisk_msg.specs.Requested.{buffer_place, descriptor_of, ring_pages, size_of, status_word}
use Rattle.vdisk_msg.specs.Requests.{written}
use Rattle.vio_bytes.proofs.Putting.{drop-put_at, length-put_at}
use Rattle.vio_bytes.proofs.Ranges.{range_at-put_at_part}
use Rattle.vio_bytes.specs.Place.{put_at}
use Rattle.vio_bytes.specs.Range.{range_at}
use Rattle.lane_models.specs.ClientStep.{filled_buffer, published_memory}
use Rattle.lane_models.specs.ServerState.{ServerState, Work}
use Rattle.cookie_copy.specs.Reach.{Reach}
use Rattle.lane_models.specs.ServerWork.{header_of, with_done, with_status, with_word, word_fault}
use Rattle.lane_laws.proofs.MemoryStanding.{desc_long, filled_long, word_long}
use Rattle.lane_laws.proofs.RingServer.{Reaches, header_long, status_is_long}
use Rattle.lane_laws.proofs.RingWrites.{ring_word}
use Rattle.lane_laws.specs.MemoryStands.{memory_long}
use Rattle.lane_laws.specs.RingSlots.{HoldsIssued, RingOf}
use Rattle.lane_laws.proofs.Changes.{filled}

-- the ring's pages
abbrev pub ring_end : ℕ → ℕ
ring_end slots = 8192 * ring_pages slots

pub range_behind : (front q n : ℕ) (memory : List ℕ) → range_at (front + q) n memory ≡ range_at q n (drop front memory)
range_behind front q n memory = ap (take n) (sym (drop-drop q front memory))

all_behind : (front : ℕ) (memory : List ℕ) → range_at front (length memory - front) memory ≡ drop front memory
all_behind front memory = take_all (length memory - front) (drop front memory) (omega (arith, length-drop front memory))

-- what is put after a front, and into it
pub drop_put : (front q : ℕ) (piece memory : List ℕ) → front + q + length piece ≤ length memory → drop front (put_at (front + q) piece memory) ≡ put_at q piece (drop front memory)
drop_put front q piece memory room =
    let n = length memory - front in
    let long : length (put_at (front + q) piece memory) ≡ length memory = length-put_at (front + q) piece memory room in
    let same : length (put_at (front + q) piece memory) - front ≡ n = omega (arith, long) in
    sym (all_behind front (put_at (front + q) piece memory))
    ∙ ap (λ (m : ℕ). range_at front m (put_at (front + q) piece memory)) same
    ∙ range_at-put_at_part q front n piece memory (omega (arith, room)) (omega (arith, room))
    ∙ ap (put_at q piece) (all_behind front memory)

pub drop_front : (front q : ℕ) (piece memory : List ℕ) → q + length piece ≤ front → front ≤ length memory → drop front (put_at q piece memory) ≡ drop front memory
drop_front front q piece memory within room = drop-put_at q front piece memory within (omega (arith, within, room))

-- THE CLIENT publishes, frees a slot, and clears the ring
pub filled_behind : (request : Request) (slots slot : ℕ) (memory : List ℕ) → size_of request ≤ most_bytes → slot < slots → length memory ≡ memory_long slots
    → drop (ring_end slots) (filled_buffer request (buffer_place slots slot) memory) ≡ filled request (most_bytes * slot) (drop (ring_end slots) memory)
filled_behind (Read block count) slots slot memory small below long = refl
filled_behind (Write block count fill) slots slot memory small below long =
    let place : buffer_place slots slot ≡ ring_end slots + most_bytes * slot = omega arith in
    ap (λ (p : ℕ). drop (ring_end slots) (put_at p (written fill count) memory)) place
    ∙ drop_put (ring_end slots) (most_bytes * slot) (written fill count) memory (omega (arith, small, below, long, length-repeated fill 0 (512 * count)))
filled_behind Flush slots slot memory small below long = refl

pub published_behind : (request : Request) (slots slot id : ℕ) (memory : List ℕ) → size_of request ≤ most_bytes → slot < slots → length memory ≡ memory_long slots
    → drop (ring_end slots) (published_memory slots slot id request memory) ≡ filled request (most_bytes * slot) (drop (ring_end slots) memory)
published_behind request slots slot id memory small below long =
    let middle = filled_buffer request (buffer_place slots slot) memory in
    let fits : 128 * slot + 128 ≤ 128 * slots = slot_fits 128 slot slots below in
    drop_front (ring_end slots) (128 * slot) (slot_says.canonical (descriptor_of id request slot slots)) middle (omega (arith, fits, desc_long id request slot slots))
    (omega (arith, filled_long request slots slot memory small below long, long))
    ∙ filled_behind request slots slot memory small below long

pub freed_behind : (slots slot : ℕ) (memory : List ℕ) → slot < slots → length memory ≡ memory_long slots → drop (ring_end slots) (put_at (128 * slot) (free_state ∷ []) memory) ≡ drop (ring_end slots) memory
freed_behind slots slot memory below long =
    let fits : 128 * slot + 128 ≤ 128 * slots = slot_fits 128 slot slots below in
    drop_front (ring_end slots) (128 * slot) (free_state ∷ []) memory (omega (arith, fits)) (omega (arith, long))

pub cleared_behind : (slots : ℕ) (memory : List ℕ) → length memory ≡ memory_long slots → drop (ring_end slots) (put_at 0 (free_slots 128 slots) memory) ≡ drop (ring_end slots) memory
cleared_behind slots memory long =
    let whole = length-free_slots 128 slots (inr refl) in
    drop_front (ring_end slots) 0 (free_slots 128 slots) memory (omega (arith, whole)) (omega (arith, long))

-- THE SERVER marks a slot, and gives it its status
pub word_behind : (s : ServerState) (r : Reach) (pages slots slot at : ℕ) (word : List ℕ) → Reaches s r pages slots → slot < slots → at + 8 ≤ 128 → length word ≡ 8 → word_fault s r slot at ≡ None
    → drop (ring_end slots) (with_word s r slot at word) ≡ drop (ring_end slots) r.memory
word_behind s r pages slots slot at word reaches below within long fault =
    let fits : 128 * slot + 128 ≤ 128 * slots = slot_fits 128 slot slots below in
    ap (drop (ring_end slots)) (ring_word s r pages slots slot at word reaches.identity reaches.cookies below within long reaches.room fault)
    ∙ drop_front (ring_end slots) (128 * slot + at) word r.memory (omega (arith, fits, within, long)) reaches.room

pub ended_behind : (ring : RingOf) (s : ServerState) (r : Reach) (pages slot id status : ℕ) (work : Work) → Reaches s r pages ring.slots → slot < ring.slots
    → HoldsIssued ring slot id 2 0 work.bytes → word_fault s r slot 16 ≡ None → word_fault s r slot 0 ≡ None
    → drop (ring_end ring.slots) (with_done s r slot work status) ≡ drop (ring_end ring.slots) r.memory
ended_behind ring s r pages slot id status work reaches below holds first second =
    let middle = with_status s r slot work status in
    let room = reaches.room in
    let word = status_word work.bytes status in
    let behind : Reaches s (record r { memory = middle }) pages ring.slots =
    record { identity = reaches.identity; cookies = reaches.cookies; within = reaches.within; room = omega (arith, room, word_long s r slot 16 word) } in
    word_behind s (record r { memory = middle }) pages ring.slots slot 0 (header_of 4 work.bytes) behind below (omega arith) (header_long 4 work.bytes) second
    ∙ word_behind s r pages ring.slots slot 16 word reaches below (omega arith) (status_is_long ring slot id status work.bytes holds) first
