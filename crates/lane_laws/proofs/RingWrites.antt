-- What the writes of the two ends do to the slots of the ring: the client's own, and the server's through the ring's cookies and those of
-- a request's buffer, over a table that grants each page of the memory at its own index.
use Rattle.std.proofs.Common.{◌≡◌, ℕ, ◌+◌, ◌*◌, ◌%◌, ◌<◌, ◌≤◌, List, length, take, drop, Bool, true, refl, sym, ap, ◌∙◌, subst, arith, Option, Some, None, inl}
use Rattle.std.specs.List.{list_all}
use Rattle.cookie_copy.proofs.OwnPages.{copied_in_range, copied_out_range, no_fault_range, own_moved_in, own_moved_out}
use Rattle.cookie_copy.specs.declared.fault.Access.TheVariants as access
use Rattle.cookie_copy.specs.declared.fault.CopyFault.{CopyFault}
use Rattle.cookie_copy.specs.Faults.{first_copy_fault, held, is_aligned, is_aligned_cookie}
use Rattle.cookie_copy.specs.Identity.{IsIdentity, copied_in, copied_out}
use Rattle.cookie_copy.specs.Moved.{moved_out}
use Rattle.dring.proofs.Laps.{slot_fits}
use Rattle.dring.specs.Slots.{OneSlot, slot_bytes}
use Rattle.map_table.specs.declared.cookie.Cookie.{Cookie}
use Rattle.vdisk_msg.specs.Requested.{buffer_cookies, cookie_count, ring_pages}
use Rattle.vio_bytes.proofs.Putting.{length-put_at}
use Rattle.vio_bytes.proofs.Ranges.{range_at-put_at_outside}
use Rattle.vio_bytes.specs.Place.{put_at}
use Rattle.lane_models.specs.Offering.{own_cookies}
use Rattle.lane_models.specs.ServerState.{ServerState, Work}
use Rattle.cookie_copy.specs.Reach.{Reach}
use Rattle.lane_models.specs.ServerWork.{data_cookies, fetch_fault, given_memory, out_fault, slot_fetched, slots_cookies, with_word, word_fault}
use Rattle.lane_laws.proofs.RingCookies.{buffer_bytes, copy_held, ring_bytes}
use Rattle.lane_laws.specs.RingSlots.{SameSlots}

-- CHANGES one after another
pub equal_slots : (slots : ℕ) (memory new : List ℕ) → new ≡ memory → SameSlots slots memory new
equal_slots slots memory new is = record { long = ap length is; each = λ slot below. ap (slot_bytes 128 slot) is }

pub one_after_same : (slots k : ℕ) (memory middle new : List ℕ) → SameSlots slots memory middle → OneSlot 128 slots k middle new → OneSlot 128 slots k memory new
one_after_same slots k memory middle new same one = grind arith

pub one_after_one : (slots k : ℕ) (memory middle new : List ℕ) → OneSlot 128 slots k memory middle → OneSlot 128 slots k middle new → OneSlot 128 slots k memory new
one_after_one slots k memory middle new first second = grind arith

-- BEHIND THE RING a write leaves all slots
pub behind_ring : (slots at : ℕ) (piece memory : List ℕ) → 128 * slots ≤ at → at + length piece ≤ length memory → SameSlots slots memory (put_at at piece memory)
behind_ring slots at piece memory past fits = record {
  long = length-put_at at piece memory fits;
  each = λ slot below.
      let within : 128 * slot + 128 ≤ 128 * slots = slot_fits 128 slot slots below in
      range_at-put_at_outside (128 * slot) 128 at piece memory fits (inl (omega (arith, within, past)));
}

-- THROUGH THE RING'S COOKIES eight bytes of a slot are written, and a slot is read
pub ring_word : (s : ServerState) (r : Reach) (pages slots slot at : ℕ) (word : List ℕ) → IsIdentity r.table pages → slots_cookies s ≡ own_cookies slots → slot < slots
    → at + 8 ≤ 128 → length word ≡ 8 → 8192 * ring_pages slots ≤ length r.memory → word_fault s r slot at ≡ None
    → with_word s r slot at word ≡ put_at (128 * slot + at) word r.memory
ring_word s r pages slots slot at word identity cookies below within long room fault =
    let b = ring_bytes slots in
    let holds = b.holds in
    let inside = b.within in
    let fits : 128 * slot + 128 ≤ 128 * slots = slot_fits 128 slot slots below in
    let none : first_copy_fault r.both access.Write r.table (slots_cookies s) (128 * slot + at) (length word) ≡ None =
    subst (λ (n : ℕ). first_copy_fault r.both access.Write r.table (slots_cookies s) (128 * slot + at) n ≡ None) (sym long) fault in
    let place : 0 + (128 * slot + at) ≡ 128 * slot + at = omega arith in
    own_moved_out r.both access.Write r.table r.memory pages (slots_cookies s) (128 * slot + at) word identity none
    ∙ ap (λ (cs : List Cookie). copied_out r.memory cs (128 * slot + at) word) cookies
    ∙ copied_out_range r.memory (own_cookies slots) 0 b.size (128 * slot + at) word b.spots_are (omega (arith, fits, holds, long, within)) (omega (arith, inside, room))
    ∙ ap (λ (p : ℕ). put_at p word r.memory) place

pub ring_fetched : (s : ServerState) (r : Reach) (pages slots slot : ℕ) → IsIdentity r.table pages → slots_cookies s ≡ own_cookies slots → slot < slots
    → 8192 * ring_pages slots ≤ length r.memory → fetch_fault s r slot ≡ None → slot_fetched s r slot ≡ slot_bytes 128 slot r.memory
ring_fetched s r pages slots slot identity cookies below room fault =
    let b = ring_bytes slots in
    let holds = b.holds in
    let inside = b.within in
    let fits : 128 * slot + 128 ≤ 128 * slots = slot_fits 128 slot slots below in
    let place : 0 + 128 * slot ≡ 128 * slot = omega arith in
    own_moved_in r.both access.Read r.table r.memory pages (slots_cookies s) (128 * slot) 128 identity fault
    ∙ ap (λ (cs : List Cookie). copied_in r.memory cs (128 * slot) 128) cookies
    ∙ copied_in_range r.memory (own_cookies slots) 0 b.size (128 * slot) 128 b.spots_are (omega (arith, fits, holds)) (omega (arith, inside, room))
    ∙ ap (λ (p : ℕ). take 128 (drop p r.memory)) place

-- no such write is refused while both ends are up
even_aligned : (slot at : ℕ) (cookies : List Cookie) → at % 8 ≡ 0 → list_all is_aligned_cookie cookies ≡ true → is_aligned cookies (128 * slot + at) 8 ≡ true
even_aligned slot at cookies even aligned = grind arith

pub ring_word_answered : (s : ServerState) (r : Reach) (pages slots slot at : ℕ) → r.both ≡ true → IsIdentity r.table pages → slots_cookies s ≡ own_cookies slots → slot < slots
    → at + 8 ≤ 128 → at % 8 ≡ 0 → ring_pages slots ≤ pages → word_fault s r slot at ≡ None
ring_word_answered s r pages slots slot at both identity cookies below within even room =
    let b = ring_bytes slots in
    let holds = b.holds in
    let inside = b.within in
    let fits : 128 * slot + 128 ≤ 128 * slots = slot_fits 128 slot slots below in
    ap (λ (up : Bool). first_copy_fault up access.Write r.table (slots_cookies s) (128 * slot + at) 8) both
    ∙ ap (λ (cs : List Cookie). first_copy_fault true access.Write r.table cs (128 * slot + at) 8) cookies
    ∙ no_fault_range access.Write r.table pages (own_cookies slots) 0 b.size (128 * slot + at) 8 identity b.spots_are (omega (arith, fits, holds, within)) (omega (arith, inside, room))
    (even_aligned slot at (own_cookies slots) even b.aligned)

-- THROUGH A BUFFER'S COOKIE a unit is written after the ring
pub record IntoBuffer (r : Reach) (place size u : ℕ) (bytes : List ℕ) (cookies : List Cookie) : Type 0 where
  pub written : moved_out r.table r.memory cookies (8192 * u) bytes ≡ put_at (place + 8192 * u) bytes r.memory
  pub within : 8192 * u + length bytes ≤ size

pub into_buffer : (r : Reach) (pages place size u : ℕ) (bytes : List ℕ) (cookies : List Cookie) → IsIdentity r.table pages → place + size ≤ length r.memory
    → cookies ≡ take (cookie_count size) (buffer_cookies place size) → first_copy_fault r.both access.Write r.table cookies (8192 * u) (length bytes) ≡ None
    → IntoBuffer r place size u bytes cookies
into_buffer r pages place size u bytes cookies identity room is none =
    let named = buffer_bytes place size in
    let within : 8192 * u + length bytes ≤ size = omega (arith, copy_held r.both access.Write r.table cookies (8192 * u) (length bytes) none, ap held is, named.whole) in
    record {
      written =
          own_moved_out r.both access.Write r.table r.memory pages cookies (8192 * u) bytes identity none
          ∙ ap (λ (cs : List Cookie). copied_out r.memory cs (8192 * u) bytes) is
          ∙ copied_out_range r.memory (take (cookie_count size) (buffer_cookies place size)) place size (8192 * u) bytes named.spots_are within room;
      within = within;
    }

pub given_behind : (fault : Option CopyFault) (work : Work) (r : Reach) (pages slots place size u : ℕ) (bytes : List ℕ) → IsIdentity r.table pages → 128 * slots ≤ place
    → place + size ≤ length r.memory → data_cookies work ≡ take (cookie_count size) (buffer_cookies place size) → fault ≡ out_fault work r u bytes
    → SameSlots slots r.memory (given_memory fault work r u bytes)
given_behind (Some why) work r pages slots place size u bytes identity past room cookies is = equal_slots slots r.memory r.memory refl
given_behind None work r pages slots place size u bytes identity past room cookies is =
    let into = into_buffer r pages place size u bytes (data_cookies work) identity room cookies (sym is) in
    let within = into.within in
    subst (λ (m : List ℕ). SameSlots slots r.memory m) (sym into.written)
    (behind_ring slots (place + 8192 * u) bytes r.memory (omega (arith, past)) (omega (arith, within, room)))
