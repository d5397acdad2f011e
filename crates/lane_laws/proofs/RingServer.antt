-- What a server's writes through the cookies of the client's ring do to its slots: a word of one slot, and the two words that end a
-- descriptor.
use Rattle.std.proofs.Common.{◌≡◌, ℕ, ◌+◌, ◌*◌, ◌<◌, ◌≤◌, true, List, length, None, inl, inr, refl, sym, ap, ◌∙◌, subst, arith}
use Rattle.cookie_copy.specs.Identity.{IsIdentity}
use Rattle.cookie_copy.specs.declared.fault.Access.TheVariants as access
use Rattle.dring.proofs.Laps.{one_slot_put, slot_put}
use Rattle.dring.specs.Slots.{OneSlot, slot_bytes}
use Rattle.vdisk_msg.specs.Descriptor.{canonical}
use Rattle.vdisk_msg.specs.declared.desc.DiskDesc.{DiskDesc}
use Rattle.vdisk_msg.specs.Requested.{descriptor_of, ring_pages, status_word}
use Rattle.vio_bytes.specs.Place.{put_at}
use Rattle.vio_tag.specs.declared.cause.Cause.{Cause}
use Rattle.lane_models.specs.Offering.{own_cookies}
use Rattle.lane_models.specs.ServerState.{ServerState, Work}
use Rattle.cookie_copy.specs.Reach.{Reach}
use Rattle.lane_models.specs.ServerWork.{EndFails, header_of, slots_cookies, with_done, with_status, with_word, word_fault}
use Rattle.lane_laws.proofs.MemoryStanding.{word_long}
use Rattle.lane_laws.proofs.RingCookies.{copy_up}
use Rattle.lane_laws.proofs.RingWrites.{one_after_one, ring_word, ring_word_answered}
use Rattle.lane_laws.specs.RingSlots.{HoldsIssued, RingOf}
use Rattle.lane_models.proofs.Apart.{some_is_none}

-- a server that reaches a ring of so many slots by its own cookies
pub record Reaches (s : ServerState) (r : Reach) (pages slots : ℕ) : Type 0 where
  pub identity : IsIdentity r.table pages
  pub cookies : slots_cookies s ≡ own_cookies slots
  pub within : ring_pages slots ≤ pages
  pub room : 8192 * ring_pages slots ≤ length r.memory

-- A WORD of a slot
pub record WritesWord (slots slot at : ℕ) (word memory new : List ℕ) : Type 0 where
  pub one : OneSlot 128 slots slot memory new
  pub there : slot_bytes 128 slot new ≡ put_at at word (slot_bytes 128 slot memory)

pub writes_word : (s : ServerState) (r : Reach) (pages slots slot at : ℕ) (word : List ℕ) → Reaches s r pages slots → slot < slots → at + 8 ≤ 128 → length word ≡ 8
    → word_fault s r slot at ≡ None → WritesWord slots slot at word r.memory (with_word s r slot at word)
writes_word s r pages slots slot at word reaches below within long fault =
    let room = reaches.room in
    let ring : 128 * slots ≤ length r.memory = omega (arith, room) in
    let is = ring_word s r pages slots slot at word reaches.identity reaches.cookies below within long reaches.room fault in
    let fits : at + length word ≤ 128 = omega (arith, within, long) in
    record {
      one = subst (λ (m : List ℕ). OneSlot 128 slots slot r.memory m) (sym is) (one_slot_put 128 slots slot at word r.memory below fits ring);
      there = ap (slot_bytes 128 slot) is ∙ slot_put 128 slots slot at word r.memory below fits ring;
    }

pub header_long : (state : ℕ) (bytes : List ℕ) → length (header_of state bytes) ≡ 8
header_long state bytes = omega arith

word_is_long : (desc : DiskDesc) (status : ℕ) → length (status_word (canonical (record desc { state = 2; status = 0 })) status) ≡ 8
word_is_long desc status = omega arith

pub status_is_long : (r : RingOf) (slot id status : ℕ) (fetched : List ℕ) → (holds : HoldsIssued r slot id 2 0 fetched) → length (status_word fetched status) ≡ 8
status_is_long r slot id status fetched holds =
    ap (λ (bytes : List ℕ). length (status_word bytes status)) holds.bytes_are ∙ word_is_long (descriptor_of id holds.request slot r.slots) status

-- THE END of a descriptor: the status, and then DONE
pub record EndsSlot (slots slot status : ℕ) (fetched memory new : List ℕ) : Type 0 where
  pub one : OneSlot 128 slots slot memory new
  pub there : slot_bytes 128 slot new ≡ put_at 0 (header_of 4 fetched) (put_at 16 (status_word fetched status) (slot_bytes 128 slot memory))

pub ends_slot : (ring : RingOf) (s : ServerState) (r : Reach) (pages slot id status : ℕ) (work : Work) → Reaches s r pages ring.slots → slot < ring.slots
    → HoldsIssued ring slot id 2 0 work.bytes → word_fault s r slot 16 ≡ None → word_fault s r slot 0 ≡ None
    → EndsSlot ring.slots slot status work.bytes r.memory (with_done s r slot work status)
ends_slot ring s r pages slot id status work reaches below holds first second =
    let middle = with_status s r slot work status in
    let word = status_word work.bytes status in
    let room = reaches.room in
    let status_first = writes_word s r pages ring.slots slot 16 word reaches below (omega arith) (status_is_long ring slot id status work.bytes holds) first in
    let behind : Reaches s (record r { memory = middle }) pages ring.slots =
    record { identity = reaches.identity; cookies = reaches.cookies; within = reaches.within; room = omega (arith, room, word_long s r slot 16 word) } in
    let done_then = writes_word s (record r { memory = middle }) pages ring.slots slot 0 (header_of 4 work.bytes) behind below (omega arith) (header_long 4 work.bytes) second in
    record {
      one = one_after_one ring.slots slot r.memory middle (with_done s r slot work status) status_first.one done_then.one;
      there = done_then.there ∙ ap (put_at 0 (header_of 4 work.bytes)) status_first.there;
    }

-- and where it is refused, nothing is written: the first word is refused already
pub end_refused : (s : ServerState) (r : Reach) (pages slots slot : ℕ) (work : Work) (status : ℕ) (cause : Cause) (new : List ℕ) → Reaches s r pages slots → slot < slots
    → EndFails s r slot work status cause new → new ≡ r.memory
end_refused s r pages slots slot work status cause new reaches below (inl fails) = fails.3
end_refused s r pages slots slot work status cause new reaches below (inr fails) =
    let both : r.both ≡ true = copy_up r.both access.Write r.table (slots_cookies s) (128 * slot + 16) 8 fails.1 in
    let none : word_fault s r slot 0 ≡ None = ring_word_answered s r pages slots slot 0 both reaches.identity reaches.cookies below (omega arith) refl reaches.within in
    some_is_none (sym fails.2 ∙ none)
