-- Along every run the completions have the numbers 0, 1, 2 and so on.
use Rattle.std.proofs.Common.{ℕ, List, [], ◌∷◌, arith}
use Rattle.runs.specs.Lawful.{Lawful}
use Rattle.runs.specs.Run.{Run}
use Rattle.lane_laws.specs.DiskLog.{DiskLog, after, nothing_yet}
use Rattle.lane_laws.specs.RequestLaws.{OnceAt}
use Rattle.lane_models.specs.DiskEvent.{DiskEvent}
use Rattle.lane_models.specs.LaneState.{IsShape, LaneState, Shape, fresh}
use Rattle.lane_models.specs.LaneStep.{LaneStep}
use Rattle.lane_laws.proofs.StandingRuns.{once_lawful}
use Rattle.lane_laws.specs.CompletedIds.{CountsFrom, done_ids, id_in, with_id}

counts_step : (l : DiskLog) (event : DiskEvent) (ids : List ℕ) → OnceAt l event → CountsFrom (after l event).work.done ids → CountsFrom l.work.done (with_id (id_in event) ids)
counts_step l event ids once rest = grind arith

counts_from : (l : DiskLog) (events : List DiskEvent) → Lawful OnceAt after l events → CountsFrom l.work.done (done_ids events)
counts_from l [] lawful = tt
counts_from l (event ∷ events) lawful = counts_step l event (done_ids events) lawful.0 (counts_from (after l event) events lawful.1)

pub ids_count_up : (shape : Shape) (events : List DiskEvent) (s : LaneState) → IsShape shape → Run LaneStep (fresh shape) events s → CountsFrom 0 (done_ids events)
ids_count_up shape events s sound run = counts_from (nothing_yet shape) events (once_lawful shape events s sound run)
