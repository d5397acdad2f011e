-- The bytes of one slot: its state, and what a server's mark and status make of a request's descriptor.
use Rattle.std.proofs.Common.{◌≡◌, ℕ, ◌^◌, ◌<◌, ◌≤◌, List, [], ◌∷◌, ◌++◌, take, refl, sym, ap, ◌∙◌, arith, Some}
use Rattle.std.specs.Prelude.{slice_get, slice_index, zero, suc}
use Rattle.vdisk_msg.proofs.Spelling.{canonical_reads_back}
use Rattle.vdisk_msg.proofs.Written.{is_admitted, requested_has_widths, state_has_widths, status_has_widths}
use Rattle.vdisk_msg.specs.declared.desc.DiskDesc.{DiskDesc}
use Rattle.vdisk_msg.specs.declared.request.Request.{Request}
use Rattle.vdisk_msg.specs.Descriptor.{HasWidths, canonical, disk_desc_of}
use Rattle.vdisk_msg.specs.Requested.{buffer_cookies, buffer_place, cookie_count, descriptor_of, size_of, status_word}
use Rattle.vio_bytes.specs.Place.{put_at}
use Rattle.lane_laws.specs.RingLog.{Done, Ready, SlotLog}
use Rattle.lane_models.specs.ServerWork.{header_of}
use Rattle.lane_laws.specs.RingSlots.{HoldsIssued, RingOf, SlotHolds}
use Rattle.lane_models.proofs.Apart.{some_same}

-- the descriptor of a request with a state and a status
abbrev pub stated : ℕ → Request → ℕ → ℕ → ℕ → ℕ → DiskDesc
stated id request slot slots state status = record (descriptor_of id request slot slots) { state = state; status = status }

-- it is published READY, with no status
pub published_is : (id : ℕ) (request : Request) (slot slots : ℕ) → canonical (descriptor_of id request slot slots) ≡ canonical (stated id request slot slots 2 0)
unfolding descriptor_of
published_is id request slot slots = refl

-- ITS STATE is its first byte
state_of_ready : (desc : DiskDesc) (status : ℕ) → slice_index (canonical (record desc { state = 2; status = status })) 0 ≡ 2
state_of_ready desc status = refl

pub ready_byte : (r : RingOf) (slot id status : ℕ) (bytes : List ℕ) → HoldsIssued r slot id 2 status bytes → slice_index bytes 0 ≡ 2
ready_byte r slot id status bytes holds = ap (λ (bs : List ℕ). slice_index bs 0) holds.bytes_are ∙ state_of_ready (descriptor_of id holds.request slot r.slots) status

-- a slot whose state is READY is that of a published request; one that is DONE, of one that got its status
pub record IsReadySlot (r : RingOf) (slot : ℕ) (is : SlotLog) (bytes : List ℕ) : Type 0 where
  pub id : ℕ
  pub same : is ≡ Ready id
  pub holds : HoldsIssued r slot id 2 0 bytes

pub ready_slot : (r : RingOf) (slot : ℕ) (is : SlotLog) (bytes : List ℕ) → SlotHolds r slot is bytes → slice_index bytes 0 ≡ 2 → IsReadySlot r slot is bytes
ready_slot r slot is bytes holds state = grind arith

pub record IsDoneSlot (r : RingOf) (slot : ℕ) (is : SlotLog) (bytes : List ℕ) : Type 0 where
  pub id : ℕ
  pub status : ℕ
  pub same : is ≡ Done id status
  pub holds : HoldsIssued r slot id 4 status bytes

pub done_slot : (r : RingOf) (slot : ℕ) (is : SlotLog) (bytes : List ℕ) → SlotHolds r slot is bytes → slice_index bytes 0 ≡ 4 → IsDoneSlot r slot is bytes
done_slot r slot is bytes holds state = grind arith

-- THE DESCRIPTOR READS BACK
pub record Sizes (r : RingOf) (slot : ℕ) : Type 0 where
  pub disk : r.blocks < 2 ^ 64
  pub below : slot < r.slots
  pub few : r.slots ≤ 256

pub reads_back : (r : RingOf) (slot id state status : ℕ) (bytes : List ℕ) → Sizes r slot → state < 2 ^ 8 → (holds : HoldsIssued r slot id state status bytes)
    → disk_desc_of bytes ≡ stated id holds.request slot r.slots state status
reads_back r slot id state status bytes sizes small holds =
    let widths : HasWidths (descriptor_of id holds.request slot r.slots) =
    requested_has_widths r.blocks id holds.request slot r.slots sizes.disk holds.id_fits sizes.below sizes.few holds.admitted in
    let marked : HasWidths (record (descriptor_of id holds.request slot r.slots) { state = state }) = state_has_widths (descriptor_of id holds.request slot r.slots) state small widths in
    let fits : HasWidths (stated id holds.request slot r.slots state status) =
    status_has_widths (record (descriptor_of id holds.request slot r.slots) { state = state }) status holds.status_fits marked in
    ap disk_desc_of holds.bytes_are ∙ canonical_reads_back (stated id holds.request slot r.slots state status) fits

-- THE MARK: ACCEPTED after READY
pub marked_holds : (r : RingOf) (slot id : ℕ) (bytes : List ℕ) → Sizes r slot → HoldsIssued r slot id 2 0 bytes → HoldsIssued r slot id 3 0 (put_at 0 (header_of 3 bytes) bytes)
marked_holds r slot id bytes sizes holds = grind arith

-- THE END: the status, and then DONE
pub same_request : (issued : List Request) (id : ℕ) (one other : Request) → slice_get issued id ≡ Some one → slice_get issued id ≡ Some other → one ≡ other
same_request issued id one other is also = let both : Some one ≡ Some other = sym is ∙ also in some_same both

pub ended_holds : (r : RingOf) (slot id status : ℕ) (fetched bytes : List ℕ) → Sizes r slot → status < 2 ^ 32 → HoldsIssued r slot id 2 0 fetched → HoldsIssued r slot id 3 0 bytes
    → HoldsIssued r slot id 4 status (put_at 0 (header_of 4 fetched) (put_at 16 (status_word fetched status) bytes))
ended_holds r slot id status fetched bytes sizes small from holds = grind arith

-- THE BUFFER that a fetched descriptor names
named_by : (id : ℕ) (request : Request) (slot slots state status : ℕ) → take (stated id request slot slots state status).count (stated id request slot slots state status).cookies
    ≡ take (cookie_count (size_of request)) (buffer_cookies (buffer_place slots slot) (size_of request))
unfolding descriptor_of
named_by id request slot slots state status = refl

pub fetched_cookies : (r : RingOf) (slot id : ℕ) (bytes : List ℕ) → Sizes r slot → (holds : HoldsIssued r slot id 2 0 bytes) → take (disk_desc_of bytes).count (disk_desc_of bytes).cookies
    ≡ take (cookie_count (size_of holds.request)) (buffer_cookies (buffer_place r.slots slot) (size_of holds.request))
fetched_cookies r slot id bytes sizes holds =
    ap (λ (d : DiskDesc). take d.count d.cookies) (reads_back r slot id 2 0 bytes sizes (omega arith) holds) ∙ named_by id holds.request slot r.slots 2 0

pub request_size : (r : RingOf) (slot id state status : ℕ) (bytes : List ℕ) → (holds : HoldsIssued r slot id state status bytes) → size_of holds.request ≤ 32768
request_size r slot id state status bytes holds = (is_admitted r.blocks holds.request holds.admitted).most

-- one more request leaves them
pub issued_more : (xs : List Request) (x y : Request) (n : ℕ) → slice_get xs n ≡ Some y → slice_get (xs ++ x ∷ []) n ≡ Some y
issued_more [] x y n is = absurd (cc is)
issued_more (z ∷ xs) x y zero is = is
issued_more (z ∷ xs) x y (suc n) is = issued_more xs x y n is

pub more_holds : (r : RingOf) (request : Request) (slot id state status : ℕ) (bytes : List ℕ) → HoldsIssued r slot id state status bytes
    → HoldsIssued (record r { issued = r.issued ++ request ∷ [] }) slot id state status bytes
more_holds r request slot id state status bytes holds = search (issued_more)
