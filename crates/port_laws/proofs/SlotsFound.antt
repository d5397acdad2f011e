-- What an end finds in a slot of the peer's ring, whatever stands there: a frame has 14 to 1,514 bytes, and what refuses the slot is its state, its
-- descriptor or a copy.
use Rattle.std.proofs.Common.{◌≡◌, ◌≢◌, ℕ, ◌+◌, ◌*◌, ◌<◌, ◌≤◌, Bool, true, false, ◌⊎◌, Option, Some, None, List, length, refl, sym, ap, ◌∙◌, arith}
use Rattle.std.specs.Prelude.{◌==◌, ◌%◌, ◌&&◌, nat_le, not, slice_index, if◌then◌else◌}
use Rattle.std.proofs.lemmas.Bool.{leb-false, leb-true}
use Rattle.std.proofs.lemmas.List.{length-map}
use Rattle.cookie_copy.proofs.Walking.{length-spots}
use Rattle.cookie_copy.specs.declared.fault.Access.TheVariants.{Read}
use Rattle.cookie_copy.specs.declared.fault.CopyFault.{CopyFault}
use Rattle.cookie_copy.specs.declared.fault.CopyFault.TheVariants as fault
use Rattle.cookie_copy.specs.Faults.{first_address_fault, first_copy_fault, held, is_aligned}
use Rattle.cookie_copy.specs.Moved.{byte_of, bytes_of, moved_in, moved_spots, spots}
use Rattle.cookie_copy.specs.Reach.{Reach}
use Rattle.dring.specs.Slots.{ready_state}
use Rattle.map_table.specs.declared.cookie.Cookie.{Cookie}
use Rattle.vio_bytes.proofs.Ranges.{length-range_at}
use Rattle.vio_tag.specs.declared.cause.Cause.{Cause}
use Rattle.vio_tag.specs.declared.cause.Cause.TheVariants as the_cause
use Rattle.vnet_msg.specs.declared.desc.NetDesc.{NetDesc}
use Rattle.vnet_msg.specs.Descriptor.{net_desc_of}
use Rattle.vnet_msg.specs.Frames.{IsFrame, frame_in, holds_frame, moved_size}
use Rattle.lane_models.proofs.Refuting.{true_false}
use Rattle.lane_models.specs.EndLog.{SessionLog}
use Rattle.lane_models.specs.Fetching.{Fetched, IsFrame as IsFetched, NotReady, Refuses, copied, copy_refused, data_cookies, described, fetched, frame_fault, mark_fault, marked, read, slot_read, slots_cookies}
use Rattle.lane_models.specs.FrameLaws.{SlotCause}
use Rattle.lane_models.specs.NetEndState.{Activity, NetEndState}
use Rattle.lane_models.specs.NetEndStep.{FetchFails}

-- A COPY that isn't refused moves as many bytes as it is asked for
past_first : (up aligned holds : Bool) (rest : Option CopyFault)
    → (if not up then Some fault.Channel else if not aligned then Some fault.BadAlign else if not holds then Some fault.Short else rest) ≡ None → holds ≡ true
past_first up aligned holds rest is = grind arith

copied_long : (reach : Reach) (cookies : List Cookie) (n : ℕ) → first_copy_fault reach.both Read reach.table cookies 0 n ≡ None → length (moved_in reach.table reach.memory cookies 0 n) ≡ n
copied_long reach cookies n none =
    let holds : 0 + n ≤ held cookies =
    leb-true (0 + n) (held cookies) (past_first reach.both (is_aligned cookies 0 n) (nat_le (0 + n) (held cookies)) (first_address_fault Read reach.table (moved_spots cookies 0 n)) none) in
    length-range_at 0 n (bytes_of reach.table reach.memory cookies)
    (omega (arith, holds, length-spots cookies, length-map (spots cookies) (byte_of reach.table reach.memory)))

-- WHAT IT FINDS
abbrev pub Fits : Fetched → Type 0
Fits (IsFetched frame new) = IsFrame frame
Fits (NotReady state) = state ≢ 2
Fits (Refuses why) = (slots : ℕ) (s : SessionLog) → SlotCause slots why s

copy_fits : (why : CopyFault) → Fits (copy_refused why)
copy_fits why = grind arith

marked_fits : (s : NetEndState) (reach : Reach) (slot : ℕ) (desc : NetDesc) (frame : List ℕ) (why : Option CopyFault) → IsFrame frame → Fits (marked s reach slot desc frame why)
marked_fits s reach slot desc frame why is = grind (arith, copy_fits)

abbrev holds_size : ℕ → Bool
holds_size size = nat_le 14 size && nat_le size 1514

sized : (size : ℕ) → holds_size size ≡ true → (14 ≤ size) × (size ≤ 1514)
sized size is = grind (arith, leb-true)

first_two : (a b c d : Bool) → (a && b && c && d) ≡ true → (a && b) ≡ true
first_two a b c d is = grind arith

frame_long : (size : ℕ) (buffer : List ℕ) → holds_size size ≡ true → length buffer ≡ moved_size size → IsFrame (frame_in size buffer)
frame_long size buffer fits long = grind (arith, sized size fits, length-range_at 6 size buffer (omega (arith, long)))

copied_fits : (s : NetEndState) (reach : Reach) (slot : ℕ) (desc : NetDesc) (why : Option CopyFault) → holds_frame desc ≡ true → frame_fault reach desc ≡ why → Fits (copied s reach slot desc why)
copied_fits s reach slot desc None holds is =
    let buffer : List ℕ = moved_in reach.table reach.memory (data_cookies desc) 0 (moved_size desc.size) in
    marked_fits s reach slot desc (frame_in desc.size buffer) (mark_fault s reach slot)
    (frame_long desc.size buffer (first_two (nat_le 14 desc.size) (nat_le desc.size 1514) (nat_le 1 desc.count) (nat_le desc.count 3) holds)
    (copied_long reach (data_cookies desc) (moved_size desc.size) is))
copied_fits s reach slot desc (Some why) holds is = copy_fits why

not_frame : (size count : ℕ) (a b c d : Bool) → nat_le 14 size ≡ a → nat_le size 1514 ≡ b → nat_le 1 count ≡ c → nat_le count 3 ≡ d → (a && b && c && d) ≡ false
    → (size < 14) ⊎ ((1514 < size) ⊎ ((count < 1) ⊎ (3 < count)))
not_frame size count a b c d one two three four is = grind (arith, leb-false, true_false)

fits_if : (b : Bool) (one other : Fetched) → (b ≡ true → Fits one) → (b ≡ false → Fits other) → Fits (if b then one else other)
fits_if b one other yes_ no_ = grind arith

described_fits : (s : NetEndState) (reach : Reach) (slot : ℕ) (desc : NetDesc) → Fits (described s reach slot desc)
described_fits s reach slot desc =
    fits_if (holds_frame desc) (copied s reach slot desc (frame_fault reach desc)) (Refuses (the_cause.Frame desc.size desc.count)) (λ is. copied_fits s reach slot desc (frame_fault reach desc) is refl)
    (λ is slots v. not_frame desc.size desc.count (nat_le 14 desc.size) (nat_le desc.size 1514) (nat_le 1 desc.count) (nat_le desc.count 3) refl refl refl refl is)

same_test : (n : ℕ) → (n == 2) ≡ false → n ≢ 2
same_test n not_ is = true_false (sym (ap (λ (x : ℕ). x == 2) is) ∙ not_)

read_fits : (s : NetEndState) (reach : Reach) (slot : ℕ) (bytes : List ℕ) → Fits (read s reach slot bytes)
read_fits s reach slot bytes =
    fits_if (slice_index bytes 0 == ready_state) (described s reach slot (net_desc_of bytes)) (NotReady (slice_index bytes 0)) (λ is. described_fits s reach slot (net_desc_of bytes)) (λ is. same_test (slice_index bytes 0) is)

slot_fits : (s : NetEndState) (reach : Reach) (slot : ℕ) (why : Option CopyFault) → Fits (slot_read s reach slot why)
slot_fits s reach slot None = read_fits s reach slot (moved_in reach.table reach.memory (slots_cookies s) (64 * slot) 64)
slot_fits s reach slot (Some why) = copy_fits why

pub fetched_fits : (s : NetEndState) (reach : Reach) (slot : ℕ) → Fits (fetched s reach slot)
fetched_fits s reach slot = slot_fits s reach slot (first_copy_fault reach.both Read reach.table (slots_cookies s) (64 * slot) 64)

-- a slot that refuses is the next, and where it isn't READY none was taken before it
pub fails_fit : (found : Fetched) (activity : Activity) (slot : ℕ) (cause : Cause) (slots : ℕ) (s : SessionLog) → Fits found → FetchFails found activity slot cause → slot ≡ s.taken % slots
    → (activity.last ≡ None → s.taken ≡ s.answered) → SlotCause slots cause s
fails_fit found activity slot cause slots s given fails next none = grind arith
