-- What an end finds in its peer's ring where nobody meddles: each frame that is published and not taken can be taken.
use Rattle.std.proofs.Common.{◌≡◌, ℕ, ◌+◌, ◌-◌, ◌*◌, ◌%◌, ◌<◌, ◌≤◌, inl, inr, Bool, true, false, Option, None, List, [], ◌∷◌, length, refl, sym, ap, ◌∙◌, arith}
use Rattle.std.specs.Prelude.{◌==◌, if◌then◌else◌, slice_index}
use Rattle.std.proofs.lemmas.Bool.{cases_lt, eqb-true}
use Rattle.std.proofs.lemmas.Bool.Decides.{nat_tests}
use Rattle.std.proofs.lemmas.Nat.{mod_below}
use Rattle.cookie_copy.proofs.OwnPages.{no_fault_range}
use Rattle.cookie_copy.specs.declared.fault.Access.{Access}
use Rattle.cookie_copy.specs.declared.fault.Access.TheVariants.{Read, Write}
use Rattle.cookie_copy.specs.Faults.{first_copy_fault, is_aligned, is_even_word}
use Rattle.cookie_copy.specs.Identity.{IsIdentity}
use Rattle.cookie_copy.specs.Moved.{moved_in, moved_out}
use Rattle.cookie_copy.specs.Reach.{Reach}
use Rattle.dring.specs.Slots.{ready_state, slot_bytes}
use Rattle.map_table.specs.declared.cookie.Cookie.{Cookie}
use Rattle.map_table.specs.declared.table.Entry.{Entry}
use Rattle.vio_tag.specs.declared.cause.Cause.{Cause}
use Rattle.vio_tag.specs.declared.cause.Cause.TheVariants as the_cause
use Rattle.vnet_msg.proofs.FrameSlots.{has_widths}
use Rattle.vnet_msg.proofs.Spelling.{canonical_reads_back}
use Rattle.vnet_msg.specs.declared.desc.NetDesc.{NetDesc}
use Rattle.vnet_msg.specs.Descriptor.{net_desc_of}
use Rattle.vnet_msg.specs.Frames.{buffer_place, frame_desc, frame_in, header, holds_frame, moved_size}
use Rattle.lane_models.specs.Fetching.{Fetched, IsFrame as IsFetched, NotReady, Refuses, copied, data_cookies, described, fetched, frame_fault, mark_fault, marked, read, slot_read, slots_cookies}
use Rattle.lane_models.specs.NetEndState.{Activity, NetEndState}
use Rattle.lane_models.specs.NetEndStep.{FetchFails}
use Rattle.lane_models.specs.NetEndTaking.{slot_state}
use Rattle.port_laws.specs.RingHolds.{RingHolds, SlotHolds}
use Rattle.port_laws.proofs.RingFetches.{Reaches, one_spots, ready_next, slot_fetched}
use Rattle.port_laws.proofs.RingMoves.{held_state, some_frame}

-- NO COPY IS REFUSED through one cookie whose place and size are multiples of 8
even_word : (n : ℕ) → n % 8 ≡ 0 → is_even_word n ≡ true
even_word n even = grind (arith, nat_tests)

aligned_one : (place size offset n : ℕ) → place % 8 ≡ 0 → size % 8 ≡ 0 → offset % 8 ≡ 0 → n % 8 ≡ 0 → is_aligned (record { address = place; size = size } ∷ []) offset n ≡ true
aligned_one place size offset n given whole from even = grind (arith, even_word)

one_answered : (access : Access) (up : Bool) (table : List (Option Entry)) (pages : ℕ) (cookies : List Cookie) (place size offset n : ℕ) → up ≡ true → IsIdentity table pages
    → cookies ≡ record { address = place; size = size } ∷ [] → place % 8 ≡ 0 → size % 8 ≡ 0 → offset % 8 ≡ 0 → n % 8 ≡ 0 → offset + n ≤ size → place + size ≤ 8192 * pages
    → first_copy_fault up access table cookies offset n ≡ None
one_answered access up table pages cookies place size offset n both identity is at whole from even within inside =
    let one : List Cookie = record { address = place; size = size } ∷ [] in
    ap (λ (b : Bool). first_copy_fault b access table cookies offset n) both
    ∙ ap (λ (cs : List Cookie). first_copy_fault true access table cs offset n) is
    ∙ no_fault_range access table pages one place size offset n identity (one_spots place size) within inside (aligned_one place size offset n at whole from even)

-- WHAT IT FINDS
pub data Finding (taken published : ℕ) (f : Fetched) : Type 0 where
  Gives : (frame new : List ℕ) → f ≡ IsFetched frame new → Finding taken published f
  Waits : (state : ℕ) → f ≡ NotReady state → published ≤ taken → Finding taken published f

frame_held : (slot size : ℕ) → 14 ≤ size → size ≤ 1514 → holds_frame (frame_desc slot size) ≡ true
frame_held slot size least most = grind (arith, nat_tests)

pub ring_finds : (s : NetEndState) (reach : Reach) (slots pages seen taken published : ℕ) (frames : List (List ℕ)) → Reaches s reach slots pages → 1 ≤ slots → reach.both ≡ true
    → 8192 + 2048 * slots ≤ 8192 * pages → RingHolds slots seen taken published frames reach.memory → Finding taken published (fetched s reach (taken % slots))
ring_finds s reach slots pages seen taken published frames reaches some both enough ring = by_state (slice_index bytes 0 == ready_state) refl
  where
    k : ℕ
    k = taken % slots

    below : k < slots
    below = mod_below taken slots (omega (arith, some))

    bytes : List ℕ
    bytes = moved_in reach.table reach.memory (slots_cookies s) (64 * k) 64

    few : slots ≤ 64
    few = reaches.fits.few

    first : first_copy_fault reach.both Read reach.table (slots_cookies s) (64 * k) 64 ≡ None
    first = one_answered Read reach.both reach.table pages (slots_cookies s) 0 (64 * slots) (64 * k) 64 both reaches.identity reaches.cookies (omega arith) (omega arith) (omega arith) (omega arith)
        (omega (arith, below)) (omega (arith, few, enough))

    mark : mark_fault s reach k ≡ None
    mark = one_answered Write reach.both reach.table pages (slots_cookies s) 0 (64 * slots) (64 * k) 8 both reaches.identity reaches.cookies (omega arith) (omega arith) (omega arith) (omega arith)
        (omega (arith, below)) (omega (arith, few, enough))

    bytes_are : bytes ≡ slot_bytes 64 k reach.memory
    bytes_are = slot_fetched s reach slots pages k reaches below first

    starts : fetched s reach k ≡ read s reach k bytes
    starts = ap (slot_read s reach k) first

    at_frame : (less : taken < published) → (one : List ℕ) × SlotHolds reach.memory k 2 one
    at_frame less =
        let before = ring.seen_first in
        let there = some_frame frames (taken - seen) (omega (arith, less, before, ring.held)) in
        (there.0, (ring.each taken before (omega (arith, ring.lap, less))).ready (omega arith) less there.0 there.1)

    gives : (one : List ℕ) → SlotHolds reach.memory k 2 one → (slice_index bytes 0 == ready_state) ≡ true → Finding taken published (fetched s reach k)
    gives one holds is_ready =
        let least = holds.is_frame.least in
        let most = holds.is_frame.most in
        let desc : NetDesc = frame_desc k (length one) in
        let desc_is : net_desc_of bytes ≡ desc = ap net_desc_of (bytes_are ∙ holds.desc) ∙ canonical_reads_back desc (has_widths one holds.is_frame k (omega (arith, below, few))) in
        let copy : frame_fault reach desc ≡ None =
        one_answered Read reach.both reach.table pages (data_cookies desc) (buffer_place k) (moved_size (length one)) 0 (moved_size (length one)) both reaches.identity refl (omega arith) (omega arith)
        (omega arith) (omega arith) (omega arith) (omega (arith, below, most, enough)) in
        let frame : List ℕ = frame_in desc.size (moved_in reach.table reach.memory (data_cookies desc) 0 (moved_size desc.size)) in
        let new : List ℕ = moved_out reach.table reach.memory (slots_cookies s) (64 * k) (header 4 desc.ack) in
        let described_is : described s reach k desc ≡ IsFetched frame new =
        ap (λ (b : Bool). if b then copied s reach k desc (frame_fault reach desc) else the_refusal desc) (frame_held k (length one) least most)
        ∙ ap (copied s reach k desc) copy ∙ ap (marked s reach k desc frame) mark in
        Gives frame new
        (starts ∙ ap (λ (b : Bool). if b then described s reach k (net_desc_of bytes) else NotReady (slice_index bytes 0)) is_ready ∙ ap (described s reach k) desc_is ∙ described_is)
      where
        the_refusal : NetDesc → Fetched
        the_refusal d = Refuses (the_cause.Frame d.size d.count)

    by_state : (test : Bool) → (slice_index bytes 0 == ready_state) ≡ test → Finding taken published (fetched s reach k)
    by_state true is =
        let state : slot_state k reach.memory ≡ 2 = ap (λ (b : List ℕ). slice_index b 0) (sym bytes_are) ∙ eqb-true (slice_index bytes 0) ready_state is in
        let there = at_frame (ready_next slots seen taken published frames reach.memory some ring state) in
        gives there.0 there.1 is
    by_state false is =
        elim (cases_lt taken published) [
          | inl less ↦ (
              let there = at_frame less in
              let state : slot_state k reach.memory ≡ 2 = held_state reach.memory k 2 there.0 there.1 in
              let same : slice_index bytes 0 ≡ 2 = ap (λ (b : List ℕ). slice_index b 0) bytes_are ∙ state in
              let wrong : true ≡ false = sym (ap (λ (n : ℕ). n == ready_state) same) ∙ is in absurd (cc wrong))
          | inr past ↦ Waits (slice_index bytes 0)
              (starts ∙ ap (λ (b : Bool). if b then described s reach k (net_desc_of bytes) else NotReady (slice_index bytes 0)) is) past
        ]

-- so a fetch fails nowhere but where nothing is left, behind the first of an activity
pub no_fail : (taken published : ℕ) (f : Fetched) (activity : Activity) (slot : ℕ) (cause : Cause) → Finding taken published f → (activity.last ≡ None → taken < published) → FetchFails f activity slot cause → ⊥
no_fail taken published f activity slot cause given less fails = grind arith
