-- In the log of a lane that nobody forged each status that is owed, and that of each slot that is DONE, is 0 or 5; and each request was
-- accepted without a defect.
use Rattle.std.proofs.Common.{◌≡◌, ◌⊎◌, inl, inr, ℕ, zero, suc, ◌+◌, ◌-◌, ◌%◌, Bool, true, false, Option, Some, None, List, [], ◌∷◌, ◌++◌, set, refl, sym, ap, ◌∙◌, subst, arith}
use Rattle.std.specs.Prelude.{⊤, ◌==◌, if◌then◌else◌, slice_get, replicate}
use Rattle.cookie_copy.specs.declared.fault.CopyFault.{CopyFault}
use Rattle.vdisk_msg.proofs.Written.{requested_is_sound, sound_pieces}
use Rattle.vdisk_msg.specs.Check.{first_defect}
use Rattle.vdisk_msg.specs.declared.desc.DiskDesc.{DiskDesc}
use Rattle.vdisk_msg.specs.declared.request.Request.{Request}
use Rattle.vdisk_msg.specs.Descriptor as slot_says
use Rattle.vdisk_msg.specs.Pieces.{Finishes, Moves, Piece, Stores, operation_pieces, pieces, read_pieces, unit_count, write_pieces}
use Rattle.vdisk_msg.specs.Requests.{defect}
use Rattle.lane_models.specs.WireEvent.{WireEvent}
use Rattle.lane_laws.specs.DiskLog.{DiskLog, after, nothing_yet}
use Rattle.lane_laws.specs.RequestLaws.{Admits}
use Rattle.lane_laws.specs.RingLog.{Accepted as IsAccepted, Done as IsDone, Free, Ready, SlotLog, Zeros, fetched_at, finished_at, freed_at, published_at}
use Rattle.lane_laws.specs.WorkLaws.{FetchesRequest, FinishesPiece, InClient, InServer, Unforged}
use Rattle.lane_laws.specs.WorkLog.{ClientCounts, ServerCounts, WorkLog, change_server, moved_rest, rest_of, stored_rest}
use Rattle.lane_models.specs.DiskEvent.{Admitted, Asks, Desc, DiskEvent, Done, Finished, Misplaced, Moved, Off, OnWire, Published, Started, Stopped, Stored, Switched, Switches, Worked, Works}
use Rattle.lane_models.specs.LaneState.{Shape}
use Rattle.world_laws.proofs.LawFacts.{Facts}
use Rattle.world_laws.specs.Statuses.{TellsStore}

abbrev pub OwedTell : List Piece → Type 0
OwedTell [] = ⊤
OwedTell (Finishes status ∷ owed) = TellsStore status × OwedTell owed
OwedTell (Moves unit ∷ owed) = OwedTell owed
OwedTell (Stores unit ∷ owed) = OwedTell owed

abbrev pub ServerTells : Option ServerCounts → Type 0
ServerTells None = ⊤
ServerTells (Some c) = OwedTell c.owed

abbrev pub SlotTells : SlotLog → Type 0
SlotTells Zeros = ⊤
SlotTells Free = ⊤
SlotTells (Ready id) = ⊤
SlotTells (IsAccepted id) = ⊤
SlotTells (IsDone id status) = TellsStore status

abbrev pub RingTells : List SlotLog → Type 0
RingTells [] = ⊤
RingTells (slot ∷ ring) = SlotTells slot × RingTells ring

abbrev pub WithoutDefect : ℕ → List Request → Type 0
WithoutDefect blocks issued = (n : ℕ) (request : Request) → slice_get issued n ≡ Some request → defect blocks request ≡ None

pub record LogTells (l : DiskLog) : Type 0 where
  pub issued : WithoutDefect l.shape.blocks l.work.issued
  pub owed : ServerTells l.work.server
  pub ring : RingTells l.ring

-- WHAT IS OWED
zero_tells : TellsStore 0
zero_tells = inl refl

rest_tells : (owed : List Piece) → OwedTell owed → OwedTell (rest_of owed)
rest_tells owed tells = grind arith

moved_tells : (fault : Option CopyFault) (owed : List Piece) → fault ≡ None → OwedTell owed → OwedTell (moved_rest fault owed)
moved_tells None owed none tells = rest_tells owed tells
moved_tells (Some why) owed none tells = absurd (cc none)

stored_tells : (failed : Bool) (owed : List Piece) → OwedTell owed → OwedTell (stored_rest failed owed)
stored_tells failed owed tells = grind (arith, rest_tells)

end_tells : (owed : List Piece) → OwedTell owed → OwedTell (owed ++ Finishes 0 ∷ [])
end_tells [] tells = (zero_tells, tt)
end_tells (Finishes status ∷ rest) tells = (tells.0, end_tells rest tells.1)
end_tells (Moves unit ∷ rest) tells = end_tells rest tells
end_tells (Stores unit ∷ rest) tells = end_tells rest tells

read_tells : (unit n : ℕ) → OwedTell (read_pieces unit n)
read_tells unit zero = tt
read_tells unit (suc n) = read_tells (unit + 1) n

write_tells : (unit n : ℕ) → OwedTell (write_pieces unit n)
write_tells unit zero = tt
write_tells unit (suc n) = write_tells (unit + 1) n

operation_tells : (read write : Bool) (units : ℕ) → OwedTell (if read then read_pieces 0 units else if write then write_pieces 0 units else Stores 0 ∷ [])
operation_tells true write units = read_tells 0 units
operation_tells false true units = write_tells 0 units
operation_tells false false units = tt

sound_tells : (desc : DiskDesc) (blocks : ℕ) → first_defect desc blocks 0x0e ≡ None → OwedTell (pieces desc blocks 0x0e)
sound_tells desc blocks sound =
    subst OwedTell (sym (sound_pieces desc blocks 0x0e sound))
    (end_tells (operation_pieces desc.operation (unit_count desc.size)) (operation_tells (desc.operation == 1) (desc.operation == 2) (unit_count desc.size)))

-- a descriptor that is fetched is that of a request without a defect
request_tells : (l : DiskLog) (slot : ℕ) (bytes : List ℕ) (base number : ℕ) → WithoutDefect l.shape.blocks l.work.issued → FetchesRequest l slot bytes base number
    → OwedTell (pieces (slot_says.disk_desc_of bytes) l.shape.blocks 0x0e)
request_tells l slot bytes base number sound fetches =
    sound_tells (slot_says.disk_desc_of bytes) l.shape.blocks
    (ap (λ (d : DiskDesc). first_defect d l.shape.blocks 0x0e) fetches.bytes_are
    ∙ requested_is_sound l.shape.blocks (base + number) fetches.request slot l.shape.slots (sound (base + number) fetches.request fetches.accepted))

fetched_tells : (l : DiskLog) (slot : ℕ) (bytes : List ℕ) (o : Option ClientCounts) (q : Option ServerCounts) → WithoutDefect l.shape.blocks l.work.issued
    → InClient o (λ (c : ClientCounts). InServer q (λ (d : ServerCounts). FetchesRequest l slot bytes c.base d.descs)) → OwedTell (pieces (slot_says.disk_desc_of bytes) l.shape.blocks 0x0e)
fetched_tells l slot bytes None q sound fetches = absurd fetches
fetched_tells l slot bytes (Some c) None sound fetches = absurd fetches
fetched_tells l slot bytes (Some c) (Some d) sound fetches = request_tells l slot bytes c.base d.descs sound fetches

changed_tells : (f : ServerCounts → ServerCounts) (o : Option ServerCounts) → ((c : ServerCounts) → OwedTell c.owed → OwedTell (f c).owed) → ServerTells o → ServerTells (change_server f o)
changed_tells f None keeps tells = tt
changed_tells f (Some c) keeps tells = keeps c tells

-- the status that is owed first
pub ends_tells : (l : DiskLog) (slot status : ℕ) (o : Option ServerCounts) → InServer o (FinishesPiece l slot status) → ServerTells o → TellsStore status
ends_tells l slot status o ends tells = grind arith

-- THE RING
set_tells : (ring : List SlotLog) (k : ℕ) (e : SlotLog) → SlotTells e → RingTells ring → RingTells (set ring k e)
set_tells [] k e here tells = tells
set_tells (x ∷ ring) zero e here tells = (here, tells.1)
set_tells (x ∷ ring) (suc k) e here tells = (tells.0, set_tells ring k e here tells.1)

pub got_tells : (ring : List SlotLog) (k : ℕ) (is : SlotLog) → RingTells ring → slice_get ring k ≡ Some is → SlotTells is
got_tells [] k is tells got = absurd (cc got)
got_tells (x ∷ ring) zero is tells got = let same : x ≡ is = cc got in subst SlotTells same tells.0
got_tells (x ∷ ring) (suc k) is tells got = got_tells ring k is tells.1 got

many_tell : (n : ℕ) (e : SlotLog) → SlotTells e → RingTells (replicate n e)
many_tell zero e here = tt
many_tell (suc n) e here = (here, many_tell n e here)

published_tells : (slots : ℕ) (o : Option ClientCounts) (id : ℕ) (ring : List SlotLog) → RingTells ring → RingTells (published_at slots o id ring)
published_tells slots None id ring tells = tells
published_tells slots (Some c) id ring tells = set_tells ring (c.published % slots) (Ready id) tt tells

freed_tells : (slots : ℕ) (w : WorkLog) (o : Option ClientCounts) (ring : List SlotLog) → RingTells ring → RingTells (freed_at slots w o ring)
freed_tells slots w None ring tells = tells
freed_tells slots w (Some c) ring tells = set_tells ring ((w.done - c.base) % slots) Free tt tells

marked_tells : (slots : ℕ) (w : WorkLog) (o : Option ServerCounts) (slot : ℕ) (ring : List SlotLog) → RingTells ring → RingTells (fetched_at slots w o slot ring)
marked_tells slots w None slot ring tells = tells
marked_tells slots w (Some d) slot ring tells = set_tells ring slot _ tt tells

finished_tells : (slots : ℕ) (w : WorkLog) (o : Option ServerCounts) (slot status : ℕ) (ring : List SlotLog) → TellsStore status → RingTells ring → RingTells (finished_at slots w o slot status ring)
finished_tells slots w None slot status ring here tells = tells
finished_tells slots w (Some d) slot status ring here tells = set_tells ring slot _ here tells

-- THE REQUESTS
got_newest : (issued : List Request) (request : Request) (n : ℕ) (is : Request) → slice_get (issued ++ request ∷ []) n ≡ Some is → (slice_get issued n ≡ Some is) ⊎ (request ≡ is)
got_newest [] request zero is got = inr (cc got)
got_newest [] request (suc n) is got = absurd (cc got)
got_newest (x ∷ issued) request zero is got = inl got
got_newest (x ∷ issued) request (suc n) is got = got_newest issued request n is got

one_more_sound : (blocks : ℕ) (issued : List Request) (request : Request) → defect blocks request ≡ None → WithoutDefect blocks issued → WithoutDefect blocks (issued ++ request ∷ [])
one_more_sound blocks issued request sound all = grind (arith, got_newest)

-- EACH EVENT
wire_tells : (l : DiskLog) (event : WireEvent) → LogTells l → LogTells (after l (OnWire event))
wire_tells l event tells = grind (arith, changed_tells, many_tell)

asked_tells : (l : DiskLog) (event : Admitted) → Admits l event → LogTells l → LogTells (after l (Asks event))
asked_tells l event admits tells = grind (arith, one_more_sound)

work_tells : (l : DiskLog) (event : Worked) → Facts l (Works event) → Unforged l (Works event) → LogTells l → LogTells (after l (Works event))
work_tells l (Published id) facts unforged tells =
    record { issued = tells.issued; owed = tells.owed; ring = published_tells l.shape.slots l.work.client id l.ring tells.ring }
work_tells l (Done id operation status bytes) facts unforged tells =
    record { issued = tells.issued; owed = tells.owed; ring = freed_tells l.shape.slots l.work l.work.client l.ring tells.ring }
work_tells l (Desc slot bytes) facts unforged tells = record {
  issued = tells.issued;
  owed = changed_tells _ l.work.server (λ c owed. fetched_tells l slot bytes l.work.client l.work.server tells.issued unforged) tells.owed;
  ring = marked_tells l.shape.slots l.work l.work.server slot l.ring tells.ring;
}
work_tells l (Moved unit fault) facts unforged tells =
    record { issued = tells.issued; owed = changed_tells _ l.work.server (λ c owed. moved_tells fault c.owed unforged owed) tells.owed; ring = tells.ring }
work_tells l (Stored operation block count failed) facts unforged tells =
    record { issued = tells.issued; owed = changed_tells _ l.work.server (λ c owed. stored_tells failed c.owed owed) tells.owed; ring = tells.ring }
work_tells l (Finished slot status) facts unforged tells = record {
  issued = tells.issued;
  owed = changed_tells _ l.work.server (λ c owed. rest_tells c.owed owed) tells.owed;
  ring = finished_tells l.shape.slots l.work l.work.server slot status l.ring (ends_tells l slot status l.work.server facts.may.pieces tells.owed) tells.ring;
}
work_tells l Misplaced facts unforged tells = record { issued = tells.issued; owed = tells.owed; ring = tells.ring }

turn_tells : (l : DiskLog) (event : Switched) → LogTells l → LogTells (after l (Switches event))
turn_tells l Stopped tells = record { issued = tells.issued; owed = tt; ring = tells.ring }
turn_tells l Started tells = record { issued = tells.issued; owed = tells.owed; ring = tells.ring }
turn_tells l Off tells = record { issued = tells.issued; owed = tells.owed; ring = tells.ring }

pub event_tells : (l : DiskLog) (event : DiskEvent) → Facts l event → l.wire.forged ≡ false → LogTells l → LogTells (after l event)
event_tells l event facts clean tells = grind (arith, wire_tells, asked_tells, work_tells, turn_tells)

-- BEFORE ANYTHING HAPPENED
none_issued : (blocks : ℕ) → WithoutDefect blocks []
none_issued blocks = λ n request got. absurd (cc got)

pub nothing_tells : (shape : Shape) → LogTells (nothing_yet shape)
nothing_tells shape = record { issued = none_issued shape.blocks; owed = tt; ring = many_tell shape.slots Zeros tt }
