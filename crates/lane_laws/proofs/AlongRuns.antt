-- What may be said of an event after each run of a lane is a law along every run, and what is one may be said of the last event of each.
use Rattle.std.proofs.Common.{◌≡◌, List, [], ◌∷◌, ◌++◌, refl, sym, ap, ◌∙◌, subst}
use Rattle.runs.specs.Lawful.{Lawful, lawful_split, log_append, log_of, run_lawful}
use Rattle.runs.specs.Run.{Run, run_push}
use Rattle.lane_laws.specs.DiskLog.{DiskLog, after, nothing_yet}
use Rattle.lane_models.specs.DiskEvent.{DiskEvent}
use Rattle.lane_models.specs.LaneState.{IsShape, LaneState, Shape, fresh}
use Rattle.lane_models.specs.LaneStep.{LaneStep}

record Reached (shape : Shape) (s : LaneState) (l : DiskLog) : Type 0 where
  events : List DiskEvent
  run : Run LaneStep (fresh shape) events s
  log : l ≡ log_of after (nothing_yet shape) events

abbrev pub OfEachRun : (DiskLog → DiskEvent → Type 0) → Shape → Type 0
OfEachRun May shape = (events : List DiskEvent) (s : LaneState) (event : DiskEvent) (t : LaneState) → Run LaneStep (fresh shape) events s → LaneStep s event t
    → May (log_of after (nothing_yet shape) events) event

reached_step : (May : DiskLog → DiskEvent → Type 0) (shape : Shape) → OfEachRun May shape → (s : LaneState) (l : DiskLog) (event : DiskEvent) (t : LaneState) → Reached shape s l
    → LaneStep s event t → May l event × Reached shape t (after l event)
reached_step May shape may s l event t reached step = (
  subst (λ (x : DiskLog). May x event) (sym reached.log) (may reached.events s event t reached.run step),
  record {
    events = reached.events ++ event ∷ [];
    run = run_push LaneStep (fresh shape) s t reached.events event reached.run step;
    log = ap (λ (x : DiskLog). after x event) reached.log ∙ sym (log_append after (nothing_yet shape) reached.events (event ∷ []));
  },
)

pub reached_lawful : (May : DiskLog → DiskEvent → Type 0) (shape : Shape) → OfEachRun May shape → (events : List DiskEvent) (s : LaneState) → Run LaneStep (fresh shape) events s
    → Lawful May after (nothing_yet shape) events
reached_lawful May shape may events s run =
    (run_lawful LaneStep May after (Reached shape) (reached_step May shape may) (fresh shape) s (nothing_yet shape) events (record { events = []; run = refl; log = refl }) run).0

-- a law of each run, said of its last event
abbrev pub OfRuns : (DiskLog → DiskEvent → Type 0) → Type 0
OfRuns May = (shape : Shape) (events : List DiskEvent) (s : LaneState) → IsShape shape → Run LaneStep (fresh shape) events s → Lawful May after (nothing_yet shape) events

-- a run that one more event follows
pub record OneMore (shape : Shape) (events : List DiskEvent) (event : DiskEvent) : Type 0 where
  pub sound : IsShape shape
  pub left : LaneState
  pub run : Run LaneStep (fresh shape) (events ++ event ∷ []) left

pub lawful_last : {May : DiskLog → DiskEvent → Type 0} {shape : Shape} {events : List DiskEvent} {event : DiskEvent} → OfRuns May → OneMore shape events event
    → May (log_of after (nothing_yet shape) events) event
lawful_last {May} {shape} {events} {event} lawful more =
    (lawful_split May after (nothing_yet shape) events (event ∷ []) (lawful shape (events ++ event ∷ []) more.left more.sound more.run)).1.0
