-- Along every run of a lane that nobody forged each descriptor is ended with the status 0 or 5, and each completion carries what its request
-- gives by its status.
use Rattle.std.proofs.Common.{◌≡◌, inl, inr, ℕ, false, List, [], ◌∷◌, length, refl, ap, ◌∙◌, arith}
use Rattle.runs.specs.Lawful.{Lawful, log_of}
use Rattle.runs.specs.Run.{Run}
use Rattle.disk_law.specs.ListStep.{Carries}
use Rattle.vdisk_msg.specs.declared.request.Request.{Request}
use Rattle.lane_laws.specs.DiskLog.{DiskLog, after, nothing_yet}
use Rattle.lane_laws.specs.RequestLaws.{carried_count}
use Rattle.lane_laws.specs.RequestLaws as request_laws
use Rattle.lane_laws.specs.RingLog.{Done as IsDone}
use Rattle.lane_models.specs.DiskEvent.{DiskEvent, Done, Finished, Worked, Works}
use Rattle.lane_models.specs.LaneState.{IsShape, LaneState, Shape, fresh}
use Rattle.lane_models.specs.LaneStep.{LaneStep}
use Rattle.lane_laws.proofs.RingRuns.{before}
use Rattle.world_laws.proofs.LawFacts.{Facts, FreesSlot, log_clean, run_facts, step_facts}
use Rattle.world_laws.proofs.Telling.{LogTells, ends_tells, event_tells, got_tells, nothing_tells}
use Rattle.world_laws.specs.Statuses.{CarriesAsAsked, StatusAt, TellsAt, TellsStore}

-- WHAT A COMPLETION CARRIES by its status
nothing_in : (bytes : List ℕ) → length bytes ≡ 0 → bytes ≡ []
nothing_in [] none = refl
nothing_in (byte ∷ bytes) none = absurd (omega (arith, none))

by_status : (request : Request) (status : ℕ) (bytes : List ℕ) → TellsStore status → length bytes ≡ carried_count status request → Carries request status bytes
by_status request status bytes (inl well) long = inl (well, long ∙ ap (λ (n : ℕ). carried_count n request) well)
by_status request status bytes (inr failed) long = inr (failed, nothing_in bytes (long ∙ ap (λ (n : ℕ). carried_count n request) failed))

completion_tells : (l : DiskLog) (id status : ℕ) (bytes : List ℕ) → FreesSlot l id status → LogTells l → request_laws.CarriesCount l.work id status bytes → CarriesAsAsked l.work id status bytes
completion_tells l id status bytes frees tells carries =
    let status_tells : TellsStore status = got_tells l.ring _ (IsDone id status) tells.ring frees.done_is in
    record { request = carries.request; accepted = carries.accepted; carries = by_status carries.request status bytes status_tells carries.long }

-- EACH EVENT
worked_status : (l : DiskLog) (event : Worked) → Facts l (Works event) → l.wire.forged ≡ false → LogTells l → TellsAt l (Works event)
worked_status l event facts clean tells = grind (arith, ends_tells, completion_tells)

event_status : (l : DiskLog) (event : DiskEvent) → Facts l event → l.wire.forged ≡ false → LogTells l → TellsAt l event
event_status l event facts clean tells = grind (arith, worked_status)

-- ALONG A RUN
status_along : (l : DiskLog) (events : List DiskEvent) → Lawful Facts after l events → (l.wire.forged ≡ false → LogTells l) → Lawful StatusAt after l events
status_along l (event ∷ events) facts tells = grind (arith, event_status, event_tells, before, status_along (after l event) events facts.1)
status_along l events facts tells = grind arith

tells_along : (l : DiskLog) (events : List DiskEvent) → Lawful Facts after l events → (l.wire.forged ≡ false → LogTells l)
    → (log_of after l events).wire.forged ≡ false → LogTells (log_of after l events)
tells_along l [] facts tells clean = tells clean
tells_along l (event ∷ events) facts tells clean =
    tells_along (after l event) events facts.1 (λ now. event_tells l event facts.0 (before l event now) (tells (before l event now))) clean

pub run_tells : (shape : Shape) (events : List DiskEvent) (s : LaneState) → IsShape shape → Run LaneStep (fresh shape) events s → Lawful StatusAt after (nothing_yet shape) events
run_tells shape events s sound run = status_along (nothing_yet shape) events (run_facts shape events s sound run) (λ clean. nothing_tells shape)

step_tells : (shape : Shape) (events : List DiskEvent) (s : LaneState) (event : DiskEvent) (t : LaneState) → IsShape shape → Run LaneStep (fresh shape) events s → s.wire.forged ≡ false
    → LaneStep s event t → TellsAt (log_of after (nothing_yet shape) events) event
step_tells shape events s event t sound run clean step =
    let l = log_of after (nothing_yet shape) events in
    let log = log_clean shape events s sound run clean in
    event_status l event (step_facts shape events s event t sound run step) log
    (tells_along (nothing_yet shape) events (run_facts shape events s sound run) (λ now. nothing_tells shape) log)

pub finished_tells : (shape : Shape) (events : List DiskEvent) (s : LaneState) (slot status : ℕ) (t : LaneState) → IsShape shape → Run LaneStep (fresh shape) events s → s.wire.forged ≡ false
    → LaneStep s (Works (Finished slot status)) t → TellsStore status
finished_tells shape events s slot status t sound run clean step = step_tells shape events s (Works (Finished slot status)) t sound run clean step

pub done_tells : (shape : Shape) (events : List DiskEvent) (s : LaneState) (id operation status : ℕ) (bytes : List ℕ) (t : LaneState) → IsShape shape → Run LaneStep (fresh shape) events s
    → s.wire.forged ≡ false → LaneStep s (Works (Done id operation status bytes)) t → CarriesAsAsked (log_of after (nothing_yet shape) events).work id status bytes
done_tells shape events s id operation status bytes t sound run clean step = step_tells shape events s (Works (Done id operation status bytes)) t sound run clean step
