-- What an end fetches through the cookies of its peer's ring, where nobody meddles: the next frame that the peer published, if there is one.
-- The slot becomes DONE.
use Rattle.std.proofs.Common.{◌≡◌, ◌≢◌, ℕ, ◌+◌, ◌-◌, ◌*◌, ◌%◌, ◌<◌, ◌≤◌, ◌⊎◌, inl, inr, Bool, true, false, Option, Some, None, List, [], ◌∷◌, length, refl, sym, ap, ◌∙◌, subst, arith}
use Rattle.std.specs.Prelude.{◌==◌, if◌then◌else◌, slice_get, slice_index}
use Rattle.std.proofs.lemmas.Bool.{cases_lt, cases_order, eqb-true}
use Rattle.std.proofs.lemmas.Nat.{mod_below}
use Rattle.std.proofs.Math.Nat.{add-mod_right}
use Rattle.std.specs.List.{range_with_len}
use Rattle.cookie_copy.proofs.InTurn.{spots_follow}
use Rattle.cookie_copy.proofs.OwnPages.{copied_in_range, copied_out_range, own_moved_in, own_moved_out}
use Rattle.cookie_copy.specs.declared.fault.Access.TheVariants.{Read, Write}
use Rattle.cookie_copy.specs.declared.fault.CopyFault.{CopyFault}
use Rattle.cookie_copy.specs.Faults.{first_copy_fault, held}
use Rattle.cookie_copy.specs.Following.{FollowOn}
use Rattle.cookie_copy.specs.Identity.{IsIdentity, copied_in, copied_out}
use Rattle.cookie_copy.specs.Moved.{moved_in, moved_out, spots}
use Rattle.cookie_copy.specs.Reach.{Reach}
use Rattle.dring.proofs.Laps.{slot_front}
use Rattle.dring.specs.Slots.{ready_state, slot_bytes}
use Rattle.map_table.specs.declared.cookie.Cookie.{Cookie}
use Rattle.vio_bytes.specs.Place.{put_at}
use Rattle.vio_bytes.specs.Range.{range_at}
use Rattle.vnet_msg.proofs.FrameSlots.{has_widths, reads}
use Rattle.vnet_msg.proofs.Spelling.{canonical_reads_back}
use Rattle.vnet_msg.specs.declared.desc.NetDesc.{NetDesc}
use Rattle.vnet_msg.specs.Descriptor.{canonical, net_desc_of}
use Rattle.vnet_msg.specs.Frames.{buffer_place, frame_desc, frame_in, header, holds_frame, moved_size}
use Rattle.vio_tag.specs.declared.cause.Cause.TheVariants as the_cause
use Rattle.lane_models.specs.Fetching.{IsFrame as IsFetched, NotReady, Refuses, copied, data_cookies, described, fetched, frame_fault, mark_fault, marked, slot_read, slots_cookies}
use Rattle.lane_models.specs.NetEndState.{NetEndState}
use Rattle.lane_models.specs.NetEndTaking.{slot_state}
use Rattle.lane_models.specs.Offers.{ring_cookie}
use Rattle.port_laws.specs.RingHolds.{RingHolds, SlotHolds, SlotOf, desc_in}
use Rattle.port_laws.proofs.RingMoves.{Fits, buffers_stay, held_state, other_slot, holds_stays, slot_within, slot_written, some_frame, state_stays}

-- AN END that reaches a ring of so many slots: the table grants each page of the memory at its own index, and it knows the ring's cookie
pub record Reaches (s : NetEndState) (reach : Reach) (slots pages : ℕ) : Type 0 where
  pub identity : IsIdentity reach.table pages
  pub cookies : slots_cookies s ≡ ring_cookie slots ∷ []
  pub fits : Fits slots reach.memory

-- WHAT WAS FOUND, where a frame was: no copy was refused, and the descriptor is READY
pub record FoundFrame (s : NetEndState) (reach : Reach) (slot : ℕ) (bytes frame new : List ℕ) : Type 0 where
  pub read : first_copy_fault reach.both Read reach.table (slots_cookies s) (64 * slot) 64 ≡ None
  pub ready : slice_index bytes 0 ≡ ready_state
  pub copied : frame_fault reach (net_desc_of bytes) ≡ None
  pub marked : mark_fault s reach slot ≡ None
  pub frame_is : frame ≡ frame_in (net_desc_of bytes).size (moved_in reach.table reach.memory (data_cookies (net_desc_of bytes)) 0 (moved_size (net_desc_of bytes).size))
  pub new_is : new ≡ moved_out reach.table reach.memory (slots_cookies s) (64 * slot) (header 4 (net_desc_of bytes).ack)

pub found_frame : (s : NetEndState) (reach : Reach) (slot : ℕ) (frame new : List ℕ) → fetched s reach slot ≡ IsFetched frame new
    → FoundFrame s reach slot (moved_in reach.table reach.memory (slots_cookies s) (64 * slot) 64) frame new
found_frame s reach slot frame new is = by_read (first_copy_fault reach.both Read reach.table (slots_cookies s) (64 * slot) 64) refl is
  where
    bytes : List ℕ
    bytes = moved_in reach.table reach.memory (slots_cookies s) (64 * slot) 64

    desc : NetDesc
    desc = net_desc_of bytes

    one : List ℕ
    one = frame_in desc.size (moved_in reach.table reach.memory (data_cookies desc) 0 (moved_size desc.size))

    by_mark : (fault : Option CopyFault) → mark_fault s reach slot ≡ fault → first_copy_fault reach.both Read reach.table (slots_cookies s) (64 * slot) 64 ≡ None
        → slice_index bytes 0 ≡ ready_state → frame_fault reach desc ≡ None → marked s reach slot desc one fault ≡ IsFetched frame new → FoundFrame s reach slot bytes frame new
    by_mark (Some why) mark first ready copy found = absurd (cc found)
    by_mark None mark first ready copy found =
        let both : IsFetched one (moved_out reach.table reach.memory (slots_cookies s) (64 * slot) (header 4 desc.ack)) ≡ IsFetched frame new = found in
        record { read = first; ready = ready; copied = copy; marked = mark; frame_is = cc both; new_is = cc both }

    by_copy : (fault : Option CopyFault) → frame_fault reach desc ≡ fault → first_copy_fault reach.both Read reach.table (slots_cookies s) (64 * slot) 64 ≡ None
        → slice_index bytes 0 ≡ ready_state → copied s reach slot desc fault ≡ IsFetched frame new → FoundFrame s reach slot bytes frame new
    by_copy (Some why) copy first ready found = absurd (cc found)
    by_copy None copy first ready found = by_mark (mark_fault s reach slot) refl first ready copy found

    by_kind : (test : Bool) → first_copy_fault reach.both Read reach.table (slots_cookies s) (64 * slot) 64 ≡ None → slice_index bytes 0 ≡ ready_state
        → (if test then copied s reach slot desc (frame_fault reach desc) else Refuses (the_cause.Frame desc.size desc.count)) ≡ IsFetched frame new → FoundFrame s reach slot bytes frame new
    by_kind true first ready found = by_copy (frame_fault reach desc) refl first ready found
    by_kind false first ready found = absurd (cc found)

    by_state : (test : Bool) → (slice_index bytes 0 == ready_state) ≡ test → first_copy_fault reach.both Read reach.table (slots_cookies s) (64 * slot) 64 ≡ None
        → (if test then described s reach slot desc else NotReady (slice_index bytes 0)) ≡ IsFetched frame new → FoundFrame s reach slot bytes frame new
    by_state true ready first found = by_kind (holds_frame desc) first (eqb-true (slice_index bytes 0) ready_state ready) found
    by_state false ready first found = absurd (cc found)

    by_read : (fault : Option CopyFault) → first_copy_fault reach.both Read reach.table (slots_cookies s) (64 * slot) 64 ≡ fault → slot_read s reach slot fault ≡ IsFetched frame new
        → FoundFrame s reach slot bytes frame new
    by_read (Some why) first found = absurd (cc found)
    by_read None first found = by_state (slice_index bytes 0 == ready_state) refl first found

-- THROUGH ONE COOKIE a range of the memory is read and written
pub one_spots : (place size : ℕ) → spots (record { address = place; size = size } ∷ []) ≡ range_with_len place size
one_spots place size =
    let one : List Cookie = record { address = place; size = size } ∷ [] in
    let follow : FollowOn place one = (refl, tt) in
    let whole : held one ≡ size = omega arith in
    spots_follow place one follow ∙ ap (λ (n : ℕ). range_with_len place n) whole

pub slot_fetched : (s : NetEndState) (reach : Reach) (slots pages slot : ℕ) → Reaches s reach slots pages → slot < slots
    → first_copy_fault reach.both Read reach.table (slots_cookies s) (64 * slot) 64 ≡ None
    → moved_in reach.table reach.memory (slots_cookies s) (64 * slot) 64 ≡ slot_bytes 64 slot reach.memory
slot_fetched s reach slots pages slot reaches below fault =
    let few = reaches.fits.few in
    let room = reaches.fits.room in
    let place : 0 + 64 * slot ≡ 64 * slot = omega arith in
    own_moved_in reach.both Read reach.table reach.memory pages (slots_cookies s) (64 * slot) 64 reaches.identity fault
    ∙ ap (λ (cs : List Cookie). copied_in reach.memory cs (64 * slot) 64) reaches.cookies
    ∙ copied_in_range reach.memory (ring_cookie slots ∷ []) 0 (64 * slots) (64 * slot) 64 (one_spots 0 (64 * slots)) (omega (arith, below)) (omega (arith, few, room))
    ∙ ap (λ (p : ℕ). range_at p 64 reach.memory) place

slot_marked : (s : NetEndState) (reach : Reach) (slots pages slot : ℕ) (piece : List ℕ) → Reaches s reach slots pages → slot < slots → length piece ≡ 8 → mark_fault s reach slot ≡ None
    → moved_out reach.table reach.memory (slots_cookies s) (64 * slot) piece ≡ put_at (64 * slot) piece reach.memory
slot_marked s reach slots pages slot piece reaches below eight fault =
    let few = reaches.fits.few in
    let room = reaches.fits.room in
    let place : 0 + 64 * slot ≡ 64 * slot = omega arith in
    let none : first_copy_fault reach.both Write reach.table (slots_cookies s) (64 * slot) (length piece) ≡ None =
    subst (λ (n : ℕ). first_copy_fault reach.both Write reach.table (slots_cookies s) (64 * slot) n ≡ None) (sym eight) fault in
    own_moved_out reach.both Write reach.table reach.memory pages (slots_cookies s) (64 * slot) piece reaches.identity none
    ∙ ap (λ (cs : List Cookie). copied_out reach.memory cs (64 * slot) piece) reaches.cookies
    ∙ copied_out_range reach.memory (ring_cookie slots ∷ []) 0 (64 * slots) (64 * slot) piece (one_spots 0 (64 * slots)) (omega (arith, below, eight)) (omega (arith, few, room))
    ∙ ap (λ (p : ℕ). put_at p piece reach.memory) place

buffer_fetched : (reach : Reach) (slots pages slot size : ℕ) → IsIdentity reach.table pages → Fits slots reach.memory → slot < slots → size ≤ 1514
    → frame_fault reach (frame_desc slot size) ≡ None
    → moved_in reach.table reach.memory (data_cookies (frame_desc slot size)) 0 (moved_size size) ≡ range_at (buffer_place slot) (moved_size size) reach.memory
buffer_fetched reach slots pages slot size identity fits below small fault =
    let place : buffer_place slot + 0 ≡ buffer_place slot = omega arith in
    own_moved_in reach.both Read reach.table reach.memory pages (data_cookies (frame_desc slot size)) 0 (moved_size size) identity fault
    ∙ copied_in_range reach.memory (data_cookies (frame_desc slot size)) (buffer_place slot) (moved_size size) 0 (moved_size size) (one_spots (buffer_place slot) (moved_size size)) (omega arith)
    (omega (arith, below, small, fits.room))
    ∙ ap (λ (p : ℕ). range_at p (moved_size size) reach.memory) place

-- A READY SLOT of a frame gives it, and is DONE then
marked_bytes : (slot size : ℕ) → put_at 0 (header 4 (frame_desc slot size).ack) (canonical (desc_in 2 slot size)) ≡ canonical (desc_in 4 slot size)
marked_bytes slot size = refl

-- the frame is the next that the peer published, and the ring holds it no more
pub record Fetches (slots seen taken published : ℕ) (frames : List (List ℕ)) (frame memory new : List ℕ) : Type 0 where
  pub below : taken < published
  pub next : slice_get frames (taken - seen) ≡ Some frame
  pub ring : RingHolds slots seen (taken + 1) published frames new
  pub new_is : new ≡ put_at (64 * (taken % slots)) (header 4 0) memory
  pub ready : slot_state (taken % slots) memory ≡ 2

-- the next slot isn't READY where all that is published was taken
pub ready_next : (slots seen taken published : ℕ) (frames : List (List ℕ)) (memory : List ℕ) → 1 ≤ slots → RingHolds slots seen taken published frames memory → slot_state (taken % slots) memory ≡ 2
    → taken < published
ready_next slots seen taken published frames memory some ring state = grind (arith, never, cases_lt)
  where
    never : published ≤ taken → (taken < seen + slots) ⊎ (seen + slots ≤ taken) → taken < published
    never past (inl within) = absurd (omega (arith, state, (ring.each taken ring.seen_first within).free past))
    never past (inr whole) =
        let last = ring.taken_first in
        let all : taken ≡ seen + slots = omega (arith, whole, last, ring.lap) in
        let there = some_frame frames (seen - seen) (omega (arith, whole, last, ring.held, some)) in
        let done = held_state memory (seen % slots) 4 there.0 ((ring.each seen (omega arith) (omega (arith, some))).done (omega (arith, all, some)) there.0 there.1) in
        let same : slot_state (taken % slots) memory ≡ slot_state (seen % slots) memory = ap (λ (n : ℕ). slot_state n memory) (ap (λ (n : ℕ). n % slots) all ∙ add-mod_right seen slots) in
        absurd (omega (arith, state, same, done))

-- it becomes DONE
ring_done : (slots seen taken published : ℕ) (frames : List (List ℕ)) (frame memory : List ℕ) → Fits slots memory → RingHolds slots seen taken published frames memory → taken < published
    → slice_get frames (taken - seen) ≡ Some frame → RingHolds slots seen (taken + 1) published frames (put_at (64 * (taken % slots)) (header 4 0) memory)
ring_done slots seen taken published frames frame memory fits ring less next =
    record {
      seen_first = omega (arith, ring.seen_first);
      taken_first = omega (arith, less);
      held = ring.held;
      lap = ring.lap;
      each = λ j since before. at_slot j since before (cases_order j taken);
    }
  where
    k : ℕ
    k = taken % slots

    new : List ℕ
    new = put_at (64 * k) (header 4 0) memory

    until : taken < seen + slots
    until = let lap = ring.lap in omega (arith, lap, less)

    below : k < slots
    below = slot_within slots seen taken ring.seen_first until

    eight : length (header 4 0) ≤ 64
    eight = omega arith

    written : SlotHolds new k 4 frame
    written =
        let few = fits.few in
        let room = fits.room in
        let was : SlotHolds memory k 2 frame = (ring.each taken ring.seen_first until).ready (omega arith) less frame next in
        record {
          is_frame = was.is_frame;
          desc = slot_front 64 slots k (header 4 0) memory below eight (omega (arith, few, room)) ∙ ap (put_at 0 (header 4 0)) was.desc ∙ marked_bytes k (length frame);
          buffer = buffers_stay slots k (header 4 0) memory fits below eight (moved_size (length frame)) ∙ was.buffer;
        }

    others : (j : ℕ) → seen ≤ j → j < seen + slots → j ≢ taken → SlotOf slots seen (taken + 1) published frames new j
    others j since before other =
        let here = ring.each j since before in
        let stays = slot_written slots k (j % slots) (header 4 0) memory fits below (slot_within slots seen j since before)
        (other_slot slots seen taken j ring.seen_first until since before other) eight in
        record {
          done = λ under one get. holds_stays memory new (j % slots) 4 one stays (here.done (first j other under) one get);
          ready = λ from under one get. holds_stays memory new (j % slots) 2 one stays (here.ready (omega (arith, from)) under one get);
          free = λ from. state_stays memory new (j % slots) stays ∙ here.free from;
        }
      where
        first : (j : ℕ) → j ≢ taken → j < taken + 1 → j < taken
        first j other under = grind (arith, cases_lt)

    at_slot : (j : ℕ) → seen ≤ j → j < seen + slots → (j ≡ taken) ⊎ ((j < taken) ⊎ (taken < j)) → SlotOf slots seen (taken + 1) published frames new j
    at_slot j since before (inl same) = record {
      done = λ under one get.
          let both : Some frame ≡ Some one = sym next ∙ ap (λ (n : ℕ). slice_get frames (n - seen)) (sym same) ∙ get in
          let is_it : frame ≡ one = cc both in
          subst (λ (n : ℕ). SlotHolds new (n % slots) 4 one) (sym same) (subst (SlotHolds new k 4) is_it written);
      ready = λ from under one get. absurd (omega (arith, from, same));
      free = λ from. absurd (omega (arith, from, same, less));
    }
    at_slot j since before (inr (inl earlier)) = others j since before (λ same. absurd (omega (arith, same, earlier)))
    at_slot j since before (inr (inr later)) = others j since before (λ same. absurd (omega (arith, same, later)))

pub ring_fetched : (s : NetEndState) (reach : Reach) (slots pages seen taken published : ℕ) (frames : List (List ℕ)) (frame new : List ℕ) → Reaches s reach slots pages → 1 ≤ slots
    → RingHolds slots seen taken published frames reach.memory → fetched s reach (taken % slots) ≡ IsFetched frame new
    → Fetches slots seen taken published frames frame reach.memory new
ring_fetched s reach slots pages seen taken published frames frame new reaches some ring is =
    let k : ℕ = taken % slots in
    let fits = reaches.fits in
    let few = fits.few in
    let below : k < slots = mod_below taken slots (omega (arith, some)) in
    let bytes : List ℕ = moved_in reach.table reach.memory (slots_cookies s) (64 * k) 64 in
    let found : FoundFrame s reach k bytes frame new = found_frame s reach k frame new is in
    let bytes_are : bytes ≡ slot_bytes 64 k reach.memory = slot_fetched s reach slots pages k reaches below found.read in
    let state : slot_state k reach.memory ≡ 2 = ap (λ (b : List ℕ). slice_index b 0) (sym bytes_are) ∙ found.ready in
    let less : taken < published = ready_next slots seen taken published frames reach.memory some ring state in
    let first = ring.seen_first in
    let lap = ring.lap in
    let there = some_frame frames (taken - seen) (omega (arith, less, first, ring.held)) in
    let one : List ℕ = there.0 in
    let holds : SlotHolds reach.memory k 2 one = (ring.each taken first (omega (arith, lap, less))).ready (omega arith) less one there.1 in
    let most = holds.is_frame.most in
    let desc_is : net_desc_of bytes ≡ frame_desc k (length one) =
    ap net_desc_of (bytes_are ∙ holds.desc) ∙ canonical_reads_back (frame_desc k (length one)) (has_widths one holds.is_frame k (omega (arith, below, few))) in
    let copied : frame_fault reach (frame_desc k (length one)) ≡ None = sym (ap (frame_fault reach) desc_is) ∙ found.copied in
    let frame_is : frame ≡ one =
    found.frame_is
    ∙ ap (λ (d : NetDesc). frame_in d.size (moved_in reach.table reach.memory (data_cookies d) 0 (moved_size d.size))) desc_is
    ∙ ap (frame_in (length one)) (buffer_fetched reach slots pages k (length one) reaches.identity fits below most copied ∙ holds.buffer)
    ∙ reads one in
    let new_is : new ≡ put_at (64 * k) (header 4 0) reach.memory =
    found.new_is ∙ ap (λ (d : NetDesc). moved_out reach.table reach.memory (slots_cookies s) (64 * k) (header 4 d.ack)) desc_is
    ∙ slot_marked s reach slots pages k (header 4 0) reaches below (omega arith) found.marked in
    record {
      below = less;
      next = there.1 ∙ ap (λ (x : List ℕ). Some x) (sym frame_is);
      ring = subst (RingHolds slots seen (taken + 1) published frames) (sym new_is) (ring_done slots seen taken published frames one reach.memory fits ring less there.1);
      new_is = new_is;
      ready = state;
    }
