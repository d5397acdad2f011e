-- The descriptor in work says what its request asks for; a copy of one of its units is never refused, and is one of the buffer's bytes.
use Rattle.std.proofs.Common.{◌≡◌, ℕ, ◌+◌, ◌*◌, ◌%◌, ◌<◌, ◌≤◌, true, Option, None, List, drop, take, length, refl, ap, ◌∙◌, arith}
use Rattle.std.specs.List.{list_all}
use Rattle.cookie_copy.proofs.OwnPages.{copied_in_range, no_fault_range, own_moved_in}
use Rattle.cookie_copy.specs.declared.fault.Access.{Access}
use Rattle.cookie_copy.specs.declared.fault.Access.TheVariants as access
use Rattle.cookie_copy.specs.Faults.{first_copy_fault, is_aligned, is_aligned_cookie, is_even_word}
use Rattle.cookie_copy.specs.Identity.{IsIdentity, copied_in}
use Rattle.cookie_copy.specs.Moved.{moved_in, moved_out}
use Rattle.map_table.specs.declared.cookie.Cookie.{Cookie}
use Rattle.map_table.specs.declared.table.Entry.{Entry}
use Rattle.vdisk_msg.specs.declared.desc.DiskDesc.{DiskDesc}
use Rattle.vdisk_msg.specs.declared.request.Request.{Request}
use Rattle.vdisk_msg.specs.Requested.{block_of, buffer_cookies, buffer_place, cookie_count, descriptor_of, size_of}
use Rattle.vdisk_msg.specs.Requests.{operation_of}
use Rattle.vio_bytes.specs.Place.{put_at}
use Rattle.vio_bytes.specs.Range.{range_at}
use Rattle.lane_models.specs.ServerState.{Work}
use Rattle.cookie_copy.specs.Reach.{Reach}
use Rattle.lane_models.specs.ServerWork.{desc_of}
use Rattle.lane_laws.proofs.RingCookies.{buffer_bytes, even_word}
use Rattle.lane_laws.proofs.RingWrites.{into_buffer}
use Rattle.lane_laws.proofs.SlotBytes.{Sizes, reads_back, stated}
use Rattle.lane_laws.specs.MemoryStands.{memory_long}
use Rattle.lane_laws.specs.RingSlots.{HoldsIssued, RingOf}
use Rattle.lane_laws.proofs.BehindRing.{drop_put, range_behind, ring_end}

-- THE DESCRIPTOR as it was fetched
size_in : (id : ℕ) (request : Request) (slot slots : ℕ) → (stated id request slot slots 2 0).size ≡ size_of request
unfolding descriptor_of
size_in id request slot slots = refl

offset_in : (id : ℕ) (request : Request) (slot slots : ℕ) → (stated id request slot slots 2 0).offset ≡ block_of request
unfolding descriptor_of
offset_in id request slot slots = refl

operation_in : (id : ℕ) (request : Request) (slot slots : ℕ) → (stated id request slot slots 2 0).operation ≡ operation_of request
unfolding descriptor_of
operation_in id request slot slots = refl

pub record WorkSays (work : Work) (request : Request) : Type 0 where
  pub size : (desc_of work).size ≡ size_of request
  pub offset : (desc_of work).offset ≡ block_of request
  pub operation : (desc_of work).operation ≡ operation_of request

pub says : (r : RingOf) (slot id : ℕ) (work : Work) → Sizes r slot → (holds : HoldsIssued r slot id 2 0 work.bytes) → WorkSays work holds.request
says r slot id work sizes holds =
    let read = reads_back r slot id 2 0 work.bytes sizes (omega arith) holds in
    record {
      size = ap (λ (d : DiskDesc). d.size) read ∙ size_in id holds.request slot r.slots;
      offset = ap (λ (d : DiskDesc). d.offset) read ∙ offset_in id holds.request slot r.slots;
      operation = ap (λ (d : DiskDesc). d.operation) read ∙ operation_in id holds.request slot r.slots;
    }

-- A COPY of a unit is answered
pub unit_answered : (kind : Access) (table : List (Option Entry)) (pages place size u n : ℕ) (cookies : List Cookie) → IsIdentity table pages → size % 8 ≡ 0 → place % 8 ≡ 0
    → place + size ≤ 8192 * pages → 8192 * u + n ≤ size → n % 8 ≡ 0 → cookies ≡ take (cookie_count size) (buffer_cookies place size)
    → first_copy_fault true kind table cookies (8192 * u) n ≡ None
unit_answered kind table pages place size u n cookies identity whole at room within even is =
    let named = buffer_bytes place size in
    let first : is_even_word (8192 * u) ≡ true = even_word (8192 * u) (omega arith) in
    let second : is_even_word n ≡ true = even_word n even in
    let all : list_all is_aligned_cookie (take (cookie_count size) (buffer_cookies place size)) ≡ true = named.aligned at whole in
    let aligned : is_aligned (take (cookie_count size) (buffer_cookies place size)) (8192 * u) n ≡ true = rw (first, second, all) refl in
    ap (λ (cs : List Cookie). first_copy_fault true kind table cs (8192 * u) n) is
    ∙ no_fault_range kind table pages (take (cookie_count size) (buffer_cookies place size)) place size (8192 * u) n identity named.spots_are within room aligned

-- and its bytes are those of the buffer
pub unit_in : (r : Reach) (pages place size u n : ℕ) (cookies : List Cookie) → IsIdentity r.table pages → place + size ≤ length r.memory → 8192 * u + n ≤ size
    → cookies ≡ take (cookie_count size) (buffer_cookies place size) → first_copy_fault r.both access.Read r.table cookies (8192 * u) n ≡ None
    → moved_in r.table r.memory cookies (8192 * u) n ≡ range_at (place + 8192 * u) n r.memory
unit_in r pages place size u n cookies identity room within is none =
    own_moved_in r.both access.Read r.table r.memory pages cookies (8192 * u) n identity none
    ∙ ap (λ (cs : List Cookie). copied_in r.memory cs (8192 * u) n) is
    ∙ copied_in_range r.memory (take (cookie_count size) (buffer_cookies place size)) place size (8192 * u) n (buffer_bytes place size).spots_are within room

-- IN THE BUFFERS after the ring
place_split : (slots slot u : ℕ) → buffer_place slots slot + 8192 * u ≡ ring_end slots + (32768 * slot + 8192 * u)
place_split slots slot u = omega arith

pub unit_gathered : (r : Reach) (pages slots slot size u n : ℕ) (cookies : List Cookie) → IsIdentity r.table pages → size ≤ 32768 → slot < slots → length r.memory ≡ memory_long slots
    → 8192 * u + n ≤ size → cookies ≡ take (cookie_count size) (buffer_cookies (buffer_place slots slot) size) → first_copy_fault r.both access.Read r.table cookies (8192 * u) n ≡ None
    → moved_in r.table r.memory cookies (8192 * u) n ≡ range_at (32768 * slot + 8192 * u) n (drop (ring_end slots) r.memory)
unit_gathered r pages slots slot size u n cookies identity few below long within is none =
    let split = place_split slots slot u in
    unit_in r pages (buffer_place slots slot) size u n cookies identity (omega (arith, few, below, long)) within is none
    ∙ ap (λ (p : ℕ). range_at p n r.memory) split
    ∙ range_behind (ring_end slots) (32768 * slot + 8192 * u) n r.memory

pub unit_given : (r : Reach) (pages slots slot size u : ℕ) (bytes : List ℕ) (cookies : List Cookie) → IsIdentity r.table pages → size ≤ 32768 → slot < slots → length r.memory ≡ memory_long slots
    → cookies ≡ take (cookie_count size) (buffer_cookies (buffer_place slots slot) size) → first_copy_fault r.both access.Write r.table cookies (8192 * u) (length bytes) ≡ None
    → drop (ring_end slots) (moved_out r.table r.memory cookies (8192 * u) bytes) ≡ put_at (32768 * slot + 8192 * u) bytes (drop (ring_end slots) r.memory)
unit_given r pages slots slot size u bytes cookies identity few below long is none =
    let into = into_buffer r pages (buffer_place slots slot) size u bytes cookies identity (omega (arith, few, below, long)) is none in
    let within = into.within in
    let split = place_split slots slot u in
    ap (drop (ring_end slots)) into.written
    ∙ ap (λ (p : ℕ). drop (ring_end slots) (put_at p bytes r.memory)) split
    ∙ drop_put (ring_end slots) (32768 * slot + 8192 * u) bytes r.memory (omega (arith, within, few, below, long))
