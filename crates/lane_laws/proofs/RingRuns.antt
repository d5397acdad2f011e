-- Where the sessions agree before an event and after it, the event keeps that each slot of the ring has the bytes and the number that
-- the log of the ring says.
use Rattle.std.proofs.Common.{◌≡◌, ℕ, ◌+◌, ◌-◌, ◌*◌, ◌^◌, ◌<◌, ◌≤◌, Bool, true, false, List, [], ◌∷◌, ◌++◌, length, replicate, take, Option, Some, None, sym, ap, ◌∙◌, subst, arith, length-append}
use Rattle.std.specs.Prelude.{if◌then◌else◌, slice_get, zero, suc}
use Rattle.std.proofs.lemmas.List.{drop-replicate, length-replicate, take-replicate}
use Rattle.std.proofs.lemmas.Option.{slice_get_within}
use Rattle.cookie_copy.specs.Identity.{IsIdentity}
use Rattle.cookie_copy.specs.declared.fault.CopyFault.{CopyFault}
use Rattle.dring.proofs.Laps.{slot_fits}
use Rattle.dring.specs.Slots.{slot_bytes}
use Rattle.map_table.specs.declared.table.Entry.{Entry}
use Rattle.vdisk_msg.specs.Check.{first_defect}
use Rattle.vdisk_msg.specs.declared.desc.DescFault.{DescFault}
use Rattle.vdisk_msg.specs.declared.desc.DiskDesc.{DiskDesc}
use Rattle.vdisk_msg.specs.Pieces.{Finishes, Moves, Piece, Stores, checked_pieces, pieces, read_pieces, write_pieces}
use Rattle.lane_models.specs.TranscriptLog.{TranscriptLog}
use Rattle.lane_models.specs.WireEvent.{WireEvent}
use Rattle.lane_models.proofs.Apart.{some_same}
use Rattle.lane_laws.specs.Agreement.{RingAgrees, SlotAgrees}
use Rattle.lane_laws.specs.DiskLog.{DiskLog, after, nothing_yet}
use Rattle.lane_laws.specs.RingLog.{SlotLog, Zeros, no_ring}
use Rattle.lane_laws.specs.WorkLog.{ServerCounts, WorkLog, change_server, moved_rest, rest_of, stored_rest, work_wired}
use Rattle.lane_models.specs.DiskEvent.{Accepted, Admitted, Asks, Desc, DiskEvent, Finished, Moved, OnWire, Stopped, Stored, Switches, Works}
use Rattle.lane_models.specs.LaneState.{IsShape, LaneState, Shape, fresh, pages_of}
use Rattle.lane_models.specs.LaneStep.{LaneStep}
use Rattle.lane_laws.proofs.CarriedRuns.{AllStand}
use Rattle.lane_laws.proofs.RingPages.{few_pages, own_is_identity, same_pages}
use Rattle.lane_laws.proofs.RingSteps.{event_in_ring}
use Rattle.lane_laws.proofs.RingWork.{Known}
use Rattle.lane_laws.specs.RingAgreed.{RingStands, SessionsAgree, ring_in}
use Rattle.lane_laws.specs.RingSlots.{OwesStatus, RingHolds, RingOf, SlotHolds, StatusStands}
use Rattle.lane_laws.specs.Standing.{LaneInvariant}

-- A STATUS that is owed has 4 bytes
rest_status : (owed : List Piece) → OwesStatus owed → OwesStatus (rest_of owed)
rest_status owed small = grind arith

moved_status : (fault : Option CopyFault) (owed : List Piece) → OwesStatus owed → OwesStatus (moved_rest fault owed)
moved_status None owed small = rest_status owed small
moved_status (Some why) owed small = (omega arith, tt)

stored_status : (failed : Bool) (owed : List Piece) → OwesStatus owed → OwesStatus (stored_rest failed owed)
stored_status false owed small = rest_status owed small
stored_status true owed small = (omega arith, tt)

end_status : (owed : List Piece) → OwesStatus owed → OwesStatus (owed ++ Finishes 0 ∷ [])
end_status [] small = (omega arith, tt)
end_status (Finishes status ∷ rest) small = (small.0, end_status rest small.1)
end_status (Moves unit ∷ rest) small = end_status rest small
end_status (Stores unit ∷ rest) small = end_status rest small

read_status : (unit n : ℕ) → OwesStatus (read_pieces unit n)
read_status unit zero = tt
read_status unit (suc n) = read_status (unit + 1) n

write_status : (unit n : ℕ) → OwesStatus (write_pieces unit n)
write_status unit zero = tt
write_status unit (suc n) = write_status (unit + 1) n

operation_status : (read write : Bool) (units : ℕ) → OwesStatus (if read then read_pieces 0 units else if write then write_pieces 0 units else Stores 0 ∷ [])
operation_status true write units = read_status 0 units
operation_status false true units = write_status 0 units
operation_status false false units = tt

checked_status : (fault : Option DescFault) (desc : DiskDesc) → OwesStatus (checked_pieces fault desc)
checked_status fault desc = grind (arith, end_status, operation_status)

pieces_status : (desc : DiskDesc) (blocks mask : ℕ) → OwesStatus (pieces desc blocks mask)
unfolding pieces
pieces_status desc blocks mask = checked_status (first_defect desc blocks mask) desc

changed_status : (f : ServerCounts → ServerCounts) (o : Option ServerCounts) → ((c : ServerCounts) → OwesStatus c.owed → OwesStatus (f c).owed) → StatusStands o → StatusStands (change_server f o)
changed_status f None keeps stands = tt
changed_status f (Some c) keeps stands = keeps c stands

wire_status : (slots : ℕ) (transcript : TranscriptLog) (w : WorkLog) (event : WireEvent) → StatusStands w.server → StatusStands (work_wired slots transcript w event).server
wire_status slots transcript w event stands = grind arith

statuses : (l : DiskLog) (event : DiskEvent) → StatusStands l.work.server → StatusStands (after l event).work.server
statuses l (OnWire event) stands = wire_status l.shape.slots l.transcript l.work event stands
statuses l (Asks (Accepted id request)) stands = stands
statuses l (Works (Desc slot bytes)) stands = changed_status _ l.work.server (λ c small. pieces_status _ l.shape.blocks 0x0e) stands
statuses l (Works (Moved unit fault)) stands = changed_status _ l.work.server (λ c small. moved_status fault c.owed small) stands
statuses l (Works (Stored operation block count failed)) stands = changed_status _ l.work.server (λ c small. stored_status failed c.owed small) stands
statuses l (Works (Finished slot status)) stands = changed_status _ l.work.server (λ c small. rest_status c.owed small) stands
statuses l (Switches Stopped) stands = tt
statuses l _ stands = stands

-- THE IDS are below 2^64
issued_asked : (s : LaneState) (l : DiskLog) (event : Admitted) (t : LaneState) → LaneInvariant s l → length l.work.issued < 2 ^ 64 → LaneStep s (Asks event) t
    → length (after l (Asks event)).work.issued < 2 ^ 64
issued_asked s l event t stands few step = grind (arith, length-append)

pub issued_behind : (s : LaneState) (l : DiskLog) (event : DiskEvent) (t : LaneState) → LaneInvariant s l → length l.work.issued < 2 ^ 64 → LaneStep s event t
    → length (after l event).work.issued < 2 ^ 64
issued_behind s l event t stands few step = grind (arith, issued_asked)

-- where nobody forged after an event, nobody had before it
pub before : (l : DiskLog) (event : DiskEvent) → (after l event).wire.forged ≡ false → l.wire.forged ≡ false
before l event not = grind arith

-- EACH EVENT
pub known_of : (s : LaneState) (l : DiskLog) → AllStand s l → RingStands s l → SessionsAgree s l → l.wire.forged ≡ false → Known s l
known_of s l all ring agree not = grind arith

pub ring_step : (s : LaneState) (l : DiskLog) (event : DiskEvent) (t : LaneState) → AllStand s l → (l.wire.forged ≡ false → SessionsAgree s l)
    → ((after l event).wire.forged ≡ false → SessionsAgree t (after l event)) → RingStands s l → LaneStep s event t → RingStands t (after l event)
ring_step s l event t all agree behind ring step =
    let same = same_pages s event t step in
    record {
      pages = record {
        identity = subst (λ (table : List (Option Entry)). IsIdentity table (pages_of l.shape)) (sym same.table) ring.pages.identity;
        few = ring.pages.few;
        disk = ring.pages.disk;
      };
      issued = issued_behind s l event t all.stands ring.issued step;
      statuses = statuses l event ring.statuses;
      unforged = λ not. event_in_ring s l event t (known_of s l all ring (agree (before l event not)) (before l event not)) ring.issued (behind not) step not;
    }

-- A FRESH RING is zeros
zeros_at : (pages slots slot : ℕ) → slot < slots → 128 * slots ≤ 8192 * pages → slot_bytes 128 slot (replicate (8192 * pages) 0) ≡ replicate 128 0
zeros_at pages slots slot below room =
    let fits : 128 * slot + 128 ≤ 128 * slots = slot_fits 128 slot slots below in
    ap (λ (xs : List ℕ). take 128 xs) (drop-replicate (128 * slot) (8192 * pages) 0) ∙ take-replicate 128 (8192 * pages - 128 * slot) 0 (omega (arith, fits, room))

zeros_entry : (n j : ℕ) (is : SlotLog) → slice_get (replicate n Zeros) j ≡ Some is → is ≡ Zeros
zeros_entry zero j is got = absurd (cc got)
zeros_entry (suc n) zero is got = let same : Zeros ≡ is = some_same got in sym same
zeros_entry (suc n) (suc j) is got = zeros_entry n j is got

fresh_holds : (shape : Shape) → RingHolds (ring_in (nothing_yet shape)) (no_ring shape.slots) (fresh shape).memory
fresh_holds shape = record {
  long = length-replicate shape.slots Zeros;
  each = λ slot is got.
      let within : slot < shape.slots = omega (arith, slice_get_within (no_ring shape.slots) slot is got, length-replicate shape.slots Zeros) in
      subst (λ (e : SlotLog). SlotHolds (ring_in (nothing_yet shape)) slot e (slot_bytes 128 slot (fresh shape).memory)) (sym (zeros_entry shape.slots slot is got))
      (zeros_at (pages_of shape) shape.slots slot within (omega arith));
}

pub fresh_ring : (shape : Shape) → IsShape shape → RingStands (fresh shape) (nothing_yet shape)
fresh_ring shape sound = record {
  pages = record { identity = own_is_identity (pages_of shape) (few_pages shape sound); few = sound.most_slots; disk = sound.most_blocks };
  issued = omega arith;
  statuses = tt;
  unforged = λ not. record { holds = fresh_holds shape; ids = tt; work = λ up. tt };
}

-- WHAT FOLLOWS: the ring is as the log says
slot_agrees : (r : RingOf) (slot : ℕ) (is : SlotLog) (bytes : List ℕ) → SlotHolds r slot is bytes → SlotAgrees r.issued r.slots slot is bytes
slot_agrees r slot is bytes holds = grind arith

pub ring_agrees : (s : LaneState) (l : DiskLog) → RingStands s l → l.wire.forged ≡ false → RingAgrees s.memory l.shape.slots l.work.issued l.ring
ring_agrees s l ring not =
    let holds = (ring.unforged not).holds in
    record { long = holds.long; each = λ slot is got. slot_agrees (ring_in l) slot is (slot_bytes 128 slot s.memory) (holds.each slot is got) }
