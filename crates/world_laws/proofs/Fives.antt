-- The statuses 5 that a lane still has to tell: those that are owed, and those in slots that are DONE. Each event of a lane that nobody forged
-- tells one, or leaves them, or adds one for a call of the store that failed; a reset only forgets some.
use Rattle.std.proofs.Common.{◌≡◌, ◌≤◌, ℕ, zero, suc, ◌+◌, ◌%◌, Bool, true, false, cond, Option, Some, None, List, [], ◌∷◌, ◌++◌, set, refl, arith}
use Rattle.std.specs.Prelude.{◌==◌, if◌then◌else◌, slice_get, replicate}
use Rattle.cookie_copy.specs.declared.fault.CopyFault.{CopyFault}
use Rattle.vdisk_msg.specs.Check.{first_defect}
use Rattle.vdisk_msg.specs.declared.desc.DescFault.{DescFault}
use Rattle.vdisk_msg.specs.declared.desc.DiskDesc.{DiskDesc}
use Rattle.vdisk_msg.specs.Pieces.{Finishes, Moves, Piece, Stores, checked_pieces, operation_pieces, pieces, read_pieces, refusal_status, unit_count, write_pieces}
use Rattle.lane_models.specs.WireEvent.{WireEvent}
use Rattle.lane_laws.specs.DiskLog.{DiskLog, after, nothing_yet}
use Rattle.lane_laws.specs.RingLog.{Accepted as IsAccepted, Done as IsDone, Free, Ready, SlotLog, Zeros, fetched_at, finished_at, freed_at, id_at, published_at}
use Rattle.lane_laws.specs.WorkLaws.{FinishesPiece, InServer}
use Rattle.lane_laws.specs.WorkLog.{ClientCounts, ServerCounts, WorkLog, change_server, moved_rest, rest_of, stored_rest}
use Rattle.lane_models.specs.DiskEvent.{Accepted, Admitted, Asks, Desc, DiskEvent, Done, Finished, Full, Misplaced, Moved, Off, OnWire, Published, Refused, Started, Stopped, Stored, Switched, Switches, Worked, Works}
use Rattle.lane_models.specs.LaneState.{Shape}
use Rattle.world_laws.proofs.LawFacts.{Facts, FreesSlot}
use Rattle.world_laws.specs.Failures.{is_failed_done, is_failed_store}

abbrev pub five : ℕ → ℕ
five status = cond (status == 5) 1 0

abbrev pub fives_owed : List Piece → ℕ
fives_owed [] = 0
fives_owed (Finishes status ∷ owed) = five status + fives_owed owed
fives_owed (Moves unit ∷ owed) = fives_owed owed
fives_owed (Stores unit ∷ owed) = fives_owed owed

abbrev pub fives_of : Option ServerCounts → ℕ
fives_of None = 0
fives_of (Some c) = fives_owed c.owed

abbrev pub five_in : SlotLog → ℕ
five_in Zeros = 0
five_in Free = 0
five_in (Ready id) = 0
five_in (IsAccepted id) = 0
five_in (IsDone id status) = five status

abbrev pub fives_in : List SlotLog → ℕ
fives_in [] = 0
fives_in (slot ∷ ring) = five_in slot + fives_in ring

abbrev pub to_tell : DiskLog → ℕ
to_tell l = fives_in l.ring + fives_of l.work.server

none_le : (n m : ℕ) → n ≡ 0 → n ≤ m
none_le n m none = omega (arith, none)

-- WHAT IS OWED
rest_fives : (owed : List Piece) → fives_owed (rest_of owed) ≤ fives_owed owed
rest_fives owed = grind arith

moved_fives : (fault : Option CopyFault) (owed : List Piece) → fives_owed (moved_rest fault owed) ≤ fives_owed owed
moved_fives None owed = rest_fives owed
moved_fives (Some why) owed = omega arith

stored_fives : (failed : Bool) (owed : List Piece) → fives_owed (stored_rest failed owed) ≤ cond failed 1 0 + fives_owed owed
stored_fives false owed = omega (arith, rest_fives owed)
stored_fives true owed = omega arith

end_fives : (owed : List Piece) → fives_owed owed ≡ 0 → fives_owed (owed ++ Finishes 0 ∷ []) ≡ 0
end_fives [] none = refl
end_fives (Finishes status ∷ rest) none = omega (arith, none, end_fives rest (omega (arith, none)))
end_fives (Moves unit ∷ rest) none = end_fives rest none
end_fives (Stores unit ∷ rest) none = end_fives rest none

read_fives : (unit n : ℕ) → fives_owed (read_pieces unit n) ≡ 0
read_fives unit zero = refl
read_fives unit (suc n) = read_fives (unit + 1) n

write_fives : (unit n : ℕ) → fives_owed (write_pieces unit n) ≡ 0
write_fives unit zero = refl
write_fives unit (suc n) = write_fives (unit + 1) n

operation_fives : (read write : Bool) (units : ℕ) → fives_owed (if read then read_pieces 0 units else if write then write_pieces 0 units else Stores 0 ∷ []) ≡ 0
operation_fives true write units = read_fives 0 units
operation_fives false true units = write_fives 0 units
operation_fives false false units = refl

refused_fives : (fault : DescFault) → five (refusal_status fault) ≡ 0
refused_fives fault = grind arith

checked_fives : (fault : Option DescFault) (desc : DiskDesc) → fives_owed (checked_pieces fault desc) ≡ 0
checked_fives None desc =
    end_fives (operation_pieces desc.operation (unit_count desc.size)) (operation_fives (desc.operation == 1) (desc.operation == 2) (unit_count desc.size))
checked_fives (Some fault) desc = omega (arith, refused_fives fault)

-- a descriptor that is fetched owes none
pieces_fives : (desc : DiskDesc) (blocks mask : ℕ) → fives_owed (pieces desc blocks mask) ≡ 0
unfolding pieces
pieces_fives desc blocks mask = checked_fives (first_defect desc blocks mask) desc

-- THE RING
set_fives : (ring : List SlotLog) (k : ℕ) (e : SlotLog) → fives_in (set ring k e) ≤ five_in e + fives_in ring
set_fives [] k e = omega arith
set_fives (x ∷ ring) zero e = omega arith
set_fives (x ∷ ring) (suc k) e = omega (arith, set_fives ring k e)

freed_fives : (ring : List SlotLog) (k id status : ℕ) → slice_get ring k ≡ Some (IsDone id status) → fives_in (set ring k Free) + five status ≡ fives_in ring
freed_fives (x ∷ ring) (suc k) id status got = omega (arith, freed_fives ring k id status got)
freed_fives ring k id status got = grind arith

many_fives : (n : ℕ) (e : SlotLog) → five_in e ≡ 0 → fives_in (replicate n e) ≡ 0
many_fives zero e none = refl
many_fives (suc n) e none = omega (arith, none, many_fives n e none)

published_fives : (slots : ℕ) (o : Option ClientCounts) (id : ℕ) (ring : List SlotLog) → fives_in (published_at slots o id ring) ≤ fives_in ring
published_fives slots None id ring = omega arith
published_fives slots (Some c) id ring = omega (arith, set_fives ring (c.published % slots) (Ready id))

marked_fives : (slots : ℕ) (w : WorkLog) (o : Option ServerCounts) (slot : ℕ) (ring : List SlotLog) → fives_in (fetched_at slots w o slot ring) ≤ fives_in ring
marked_fives slots w None slot ring = omega arith
marked_fives slots w (Some d) slot ring = omega (arith, set_fives ring slot (IsAccepted (id_at w.client d.descs)))

-- THE SERVER'S COUNTS change, by so many more
more_fives : (ring now n : ℕ) (f : ServerCounts → ServerCounts) (o : Option ServerCounts) → now ≤ ring → ((c : ServerCounts) → fives_owed (f c).owed ≤ n + fives_owed c.owed)
    → 0 + (now + fives_of (change_server f o)) ≤ n + (ring + fives_of o)
more_fives ring now n f None few grows = omega (arith, few)
more_fives ring now n f (Some c) few grows = omega (arith, few, grows c)

same_fives : (ring now : ℕ) (f : ServerCounts → ServerCounts) (o : Option ServerCounts) → now ≤ ring → ((c : ServerCounts) → fives_owed (f c).owed ≤ fives_owed c.owed)
    → 0 + (now + fives_of (change_server f o)) ≤ 0 + (ring + fives_of o)
same_fives ring now f o few falls = more_fives ring now 0 f o few (λ c. omega (arith, falls c))

ended_fives : (l : DiskLog) (slots : ℕ) (w : WorkLog) (o : Option ServerCounts) (slot status : ℕ) (ring : List SlotLog) (f : ServerCounts → ServerCounts)
    → ((c : ServerCounts) → (f c).owed ≡ rest_of c.owed) → InServer o (FinishesPiece l slot status)
    → 0 + (fives_in (finished_at slots w o slot status ring) + fives_of (change_server f o)) ≤ 0 + (fives_in ring + fives_of o)
ended_fives l slots w o slot status ring f ends finishes = grind (arith, set_fives)

done_fives : (l : DiskLog) (id status : ℕ) → FreesSlot l id status
    → five status + (fives_in (freed_at l.shape.slots l.work l.work.client l.ring) + fives_of l.work.server) ≤ 0 + (fives_in l.ring + fives_of l.work.server)
done_fives l id status frees = grind (arith, freed_fives)

-- EACH EVENT
abbrev pub TellsSome : DiskLog → DiskEvent → Type 0
TellsSome l event = cond (is_failed_done event) 1 0 + to_tell (after l event) ≤ cond (is_failed_store event) 1 0 + to_tell l

wire_fives : (l : DiskLog) (event : WireEvent) → TellsSome l (OnWire event)
wire_fives l event = grind (arith, same_fives, many_fives)

asked_fives : (l : DiskLog) (event : Admitted) → TellsSome l (Asks event)
asked_fives l (Accepted id request) = omega arith
asked_fives l (Full request) = omega arith
asked_fives l (Refused why request) = omega arith

work_fives : (l : DiskLog) (event : Worked) → Facts l (Works event) → l.wire.forged ≡ false → TellsSome l (Works event)
work_fives l (Published id) facts clean = omega (arith, published_fives l.shape.slots l.work.client id l.ring)
work_fives l (Done id operation status bytes) facts clean = done_fives l id status (facts.slot clean)
work_fives l (Desc slot bytes) facts clean =
    same_fives (fives_in l.ring) _ _ l.work.server (marked_fives l.shape.slots l.work l.work.server slot l.ring) (λ c. none_le _ (fives_owed c.owed) (pieces_fives _ l.shape.blocks 0x0e))
work_fives l (Moved unit fault) facts clean = same_fives (fives_in l.ring) (fives_in l.ring) _ l.work.server (omega arith) (λ c. moved_fives fault c.owed)
work_fives l (Stored operation block count failed) facts clean =
    more_fives (fives_in l.ring) (fives_in l.ring) (cond failed 1 0) _ l.work.server (omega arith) (λ c. stored_fives failed c.owed)
work_fives l (Finished slot status) facts clean =
    ended_fives l l.shape.slots l.work l.work.server slot status l.ring _ (λ c. refl) facts.may.pieces
work_fives l Misplaced facts clean = omega arith

turn_fives : (l : DiskLog) (event : Switched) → TellsSome l (Switches event)
turn_fives l Stopped = omega arith
turn_fives l Started = omega arith
turn_fives l Off = omega arith

pub event_fives : (l : DiskLog) (event : DiskEvent) → Facts l event → l.wire.forged ≡ false → TellsSome l event
event_fives l event facts clean = grind (arith, wire_fives, asked_fives, work_fives, turn_fives)

pub nothing_to_tell : (shape : Shape) → to_tell (nothing_yet shape) ≡ 0
nothing_to_tell shape = omega (arith, many_fives shape.slots Zeros refl)
