-- A place that lies outside of what the requests that a journal accepted write is named by no event of its disk.
use Rattle.std.proofs.Common.{inl, inr, ℕ, List, [], ◌∷◌, arith}
use Rattle.vdisk_msg.specs.declared.request.Request.{Request}
use Rattle.vdisk_msg.specs.declared.request.Request.TheVariants.{Flush, Read, Write}
use Rattle.disk_law.specs.Issued.{issued}
use Rattle.world_parts.specs.lane_models.DiskEvent.{Accepted, Asks, Calms, Desc, DiskEvent, Done, Finished, Full, Misplaced, Moved, OnWire, Published, Refused, Stored, Switches, Works}
use Rattle.world_parts.specs.world_laws.NamesNo.{IsApart, NamesNo}
use Rattle.world_parts.specs.world_laws.Requests.{requests_of}
use Rattle.script_laws.specs.Outside.{IsOutside, IsOutsideAll}

apart : (first place : ℕ) (request : Request) → IsOutside first place request → IsApart place first request
apart first place (Read block count) outside = tt
apart first place (Write block count fill) (inl before) = inl before
apart first place (Write block count fill) (inr behind) = inr (omega (arith, behind))
apart first place Flush outside = tt

-- of the first event, where it is accepted, and of those after it
pub names_no : (first place : ℕ) (events : List DiskEvent) → IsOutsideAll first place (issued (requests_of events))
    → NamesNo place first events
names_no first place [] outside = tt
names_no first place (Asks (Accepted id request) ∷ events) outside = grind (arith, apart, names_no first place events outside.1)
names_no first place (Asks (Full request) ∷ events) outside = (tt, names_no first place events outside)
names_no first place (Asks (Refused why request) ∷ events) outside = (tt, names_no first place events outside)
names_no first place (OnWire event ∷ events) outside = (tt, names_no first place events outside)
names_no first place (Works (Published id) ∷ events) outside = (tt, names_no first place events outside)
names_no first place (Works (Done id operation status bytes) ∷ events) outside = (tt, names_no first place events outside)
names_no first place (Works (Desc slot bytes) ∷ events) outside = (tt, names_no first place events outside)
names_no first place (Works (Moved unit fault) ∷ events) outside = (tt, names_no first place events outside)
names_no first place (Works (Stored operation block count failed) ∷ events) outside = grind (arith, names_no first place events outside)
names_no first place (Works (Finished slot status) ∷ events) outside = (tt, names_no first place events outside)
names_no first place (Works Misplaced ∷ events) outside = (tt, names_no first place events outside)
names_no first place (Switches event ∷ events) outside = (tt, names_no first place events outside)
names_no first place (Calms event ∷ events) outside = (tt, names_no first place events outside)
