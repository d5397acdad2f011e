-- What the events of a lane that nobody forged tell of the statuses of its completions.
use Rattle.std.proofs.Common.{◌≡◌, inl, inr, ℕ, false, List, [], ◌∷◌, refl, arith}
use Rattle.std.specs.List.{All, count_by, filter_map}
use Rattle.std.proofs.lemmas.List.Elements.{All-cons, All-nil}
use Rattle.runs.specs.Lawful.{Lawful, log_of}
use Rattle.vdisk_msg.specs.declared.request.Request.{Request}
use Rattle.disk_law.specs.ListStep as plain
use Rattle.disk_law.specs.ListStep.{Carries}
use Rattle.world_parts.specs.lane_laws.DiskLog.{DiskLog, after}
use Rattle.world_parts.specs.lane_models.DiskEvent.{Accepted, Asks, Calms, Desc, DiskEvent, Done, Finished, Full, Misplaced, Moved, OnWire, Published, Refused, Stored, Switches, Works}
use Rattle.world_parts.proofs.world_laws.Counted.{count_more}
use Rattle.world_parts.proofs.world_laws.LawFacts.{clean_before}
use Rattle.world_parts.specs.world_laws.Failures.{is_failed_done}
use Rattle.world_parts.specs.world_laws.Requests.{requests_of}
use Rattle.world_parts.specs.world_laws.Statuses.{CarriesAsAsked, StatusAt, TellsStore}
use Rattle.script_laws.proofs.EntryKinds.{kept}
use Rattle.script_laws.specs.Failures.{SucceedsOrFails, has_failed}

-- what a journal tells of these events
abbrev pub kept_of : List DiskEvent → List plain.ListEvent
kept_of events = filter_map kept (requests_of events)

carries_status : (request : Request) (status : ℕ) (bytes : List ℕ) → Carries request status bytes → TellsStore status
carries_status request status bytes (inl well) = inl well.0
carries_status request status bytes (inr failed) = inr failed.0

-- EACH COMPLETION has the status 0 or 5
pub statuses_of : (l : DiskLog) (events : List DiskEvent) → Lawful StatusAt after l events
    → (log_of after l events).wire.forged ≡ false → All SucceedsOrFails (kept_of events)
statuses_of l [] lawful clean = All-nil SucceedsOrFails
statuses_of l (Asks (Accepted id request) ∷ events) lawful clean = grind (arith, statuses_of (after l (Asks (Accepted id request))) events lawful.1 clean)
statuses_of l (Works (Done id operation status bytes) ∷ events) lawful clean =
    let event : DiskEvent = Works (Done id operation status bytes) in
    let as_asked : CarriesAsAsked l.work id status bytes = lawful.0 (clean_before l (event ∷ events) clean) in
    All-cons SucceedsOrFails (plain.Done id operation status bytes) (kept_of events)
    (carries_status as_asked.request status bytes as_asked.carries) (statuses_of (after l event) events lawful.1 clean)
statuses_of l (Asks (Full request) ∷ events) lawful clean =
    statuses_of (after l (Asks (Full request))) events lawful.1 clean
statuses_of l (Asks (Refused why request) ∷ events) lawful clean =
    statuses_of (after l (Asks (Refused why request))) events lawful.1 clean
statuses_of l (OnWire event ∷ events) lawful clean = statuses_of (after l (OnWire event)) events lawful.1 clean
statuses_of l (Works (Published id) ∷ events) lawful clean =
    statuses_of (after l (Works (Published id))) events lawful.1 clean
statuses_of l (Works (Desc slot bytes) ∷ events) lawful clean =
    statuses_of (after l (Works (Desc slot bytes))) events lawful.1 clean
statuses_of l (Works (Moved unit fault) ∷ events) lawful clean =
    statuses_of (after l (Works (Moved unit fault))) events lawful.1 clean
statuses_of l (Works (Stored operation block count failed) ∷ events) lawful clean =
    statuses_of (after l (Works (Stored operation block count failed))) events lawful.1 clean
statuses_of l (Works (Finished slot status) ∷ events) lawful clean =
    statuses_of (after l (Works (Finished slot status))) events lawful.1 clean
statuses_of l (Works Misplaced ∷ events) lawful clean = statuses_of (after l (Works Misplaced)) events lawful.1 clean
statuses_of l (Switches event ∷ events) lawful clean = statuses_of (after l (Switches event)) events lawful.1 clean
statuses_of l (Calms event ∷ events) lawful clean = statuses_of (after l (Calms event)) events lawful.1 clean

-- AND AS MANY FAILED as the events say
none_more : (event : DiskEvent) (events : List DiskEvent) (n : ℕ) → is_failed_done event ≡ false
    → n ≡ count_by is_failed_done events → n ≡ count_by is_failed_done (event ∷ events)
none_more event events n none rest = grind (arith, count_more)

pub failed_of : (events : List DiskEvent) → count_by has_failed (kept_of events) ≡ count_by is_failed_done events
failed_of [] = refl
failed_of (Asks (Accepted id request) ∷ events) = grind (arith, count_more, failed_of events)
failed_of (Works (Done id operation status bytes) ∷ events) =
    let event : DiskEvent = Works (Done id operation status bytes) in
    let rest = failed_of events in
    omega (
      arith,
      count_more has_failed (plain.Done id operation status bytes) (kept_of events),
      count_more is_failed_done event events,
      rest,
    )
failed_of (Asks (Full request) ∷ events) = none_more (Asks (Full request)) events _ refl (failed_of events)
failed_of (Asks (Refused why request) ∷ events) = none_more (Asks (Refused why request)) events _ refl (failed_of events)
failed_of (OnWire event ∷ events) = none_more (OnWire event) events _ refl (failed_of events)
failed_of (Works (Published id) ∷ events) = none_more (Works (Published id)) events _ refl (failed_of events)
failed_of (Works (Desc slot bytes) ∷ events) = none_more (Works (Desc slot bytes)) events _ refl (failed_of events)
failed_of (Works (Moved unit fault) ∷ events) = none_more (Works (Moved unit fault)) events _ refl (failed_of events)
failed_of (Works (Stored operation block count failed) ∷ events) =
    none_more (Works (Stored operation block count failed)) events _ refl (failed_of events)
failed_of (Works (Finished slot status) ∷ events) =
    none_more (Works (Finished slot status)) events _ refl (failed_of events)
failed_of (Works Misplaced ∷ events) = none_more (Works Misplaced) events _ refl (failed_of events)
failed_of (Switches event ∷ events) = none_more (Switches event) events _ refl (failed_of events)
failed_of (Calms event ∷ events) = none_more (Calms event) events _ refl (failed_of events)
