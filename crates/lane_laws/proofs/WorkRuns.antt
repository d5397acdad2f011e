-- Along every run the events of the work have their numbers, resets their grounds, and an idle end nothing to do.
use Rattle.std.proofs.Common.{List, refl, ◌∙◌}
use Rattle.std.specs.Prelude.{⊤}
use Rattle.runs.specs.Lawful.{Lawful, log_of, run_lawful}
use Rattle.runs.specs.Run.{Run}
use Rattle.lane_laws.specs.DiskLog.{DiskLog, after, nothing_yet}
use Rattle.lane_laws.specs.OrderLaws.{OrderAt}
use Rattle.lane_laws.specs.QuietLaws.{IdleAt}
use Rattle.lane_laws.specs.WorkLaws.{PiecesAt, RangesAt, WorkNumbersAt, WorkResetAt}
use Rattle.lane_models.specs.DiskEvent.{DiskEvent}
use Rattle.lane_models.specs.LaneState.{IsShape, LaneState, Shape, fresh}
use Rattle.lane_models.specs.LaneStep.{LaneStep}
use Rattle.lane_laws.proofs.AlongRuns.{reached_lawful}
use Rattle.lane_laws.proofs.CarriedRuns.{fresh_all}
use Rattle.lane_laws.proofs.EndsFold.{client_told, run_both, server_told}
use Rattle.lane_laws.proofs.LaneChannel.{lane_folds, no_sids, run_sids}
use Rattle.lane_laws.proofs.LaneCounting.{fresh_counted, knows_step}
use Rattle.lane_laws.proofs.Speaking.{fresh_rests}
use Rattle.lane_laws.proofs.RingPages.{same_pages}
use Rattle.lane_laws.proofs.IdleLaw.{idle_at}
use Rattle.lane_laws.proofs.OrderLaw.{order_at}
use Rattle.lane_laws.proofs.PieceLaw.{Working, pieces_at}
use Rattle.lane_laws.proofs.RangeLaw.{ranges_at}
use Rattle.lane_laws.proofs.WorkKept.{OfWork, pieces_keep, work_step}
use Rattle.lane_laws.proofs.WorkNumbers.{Grounded, numbers_at}
use Rattle.lane_laws.proofs.WorkResets.{own_resets_at}

pub fresh_grounded : (shape : Shape) → IsShape shape → Grounded (fresh shape) (nothing_yet shape)
fresh_grounded shape sound = search (fresh_all, fresh_rests, fresh_counted)

pub run_grounded : (shape : Shape) (events : List DiskEvent) (s : LaneState) → IsShape shape → Run LaneStep (fresh shape) events s → Grounded s (log_of after (nothing_yet shape) events)
run_grounded shape events s sound run =
    (run_lawful LaneStep (λ (l : DiskLog) (e : DiskEvent). ⊤) after Grounded
    (λ (x : LaneState) (l : DiskLog) (e : DiskEvent) (y : LaneState) grounded step. (tt, record { knows = (knows_step x l e y grounded.knows step).1; sound = grounded.sound }))
    (fresh shape) s (nothing_yet shape) events (fresh_grounded shape sound) run).1

-- a law of each event of a grounded lane is one of every run
pub grounded_lawful : (May : DiskLog → DiskEvent → Type 0) → ((s : LaneState) (l : DiskLog) (event : DiskEvent) (t : LaneState) → Grounded s l → LaneStep s event t → May l event)
    → (shape : Shape) (events : List DiskEvent) (s : LaneState) → IsShape shape → Run LaneStep (fresh shape) events s → Lawful May after (nothing_yet shape) events
grounded_lawful May may shape events s sound run =
    (run_lawful LaneStep May after Grounded
    (λ (x : LaneState) (l : DiskLog) (e : DiskEvent) (y : LaneState) grounded step.
    (may x l e y grounded step, record { knows = (knows_step x l e y grounded.knows step).1; sound = grounded.sound }))
    (fresh shape) s (nothing_yet shape) events (fresh_grounded shape sound) run).0

pub numbers_lawful : (shape : Shape) (events : List DiskEvent) (s : LaneState) → IsShape shape → Run LaneStep (fresh shape) events s → Lawful WorkNumbersAt after (nothing_yet shape) events
numbers_lawful = grounded_lawful WorkNumbersAt numbers_at

pub order_lawful : (shape : Shape) (events : List DiskEvent) (s : LaneState) → IsShape shape → Run LaneStep (fresh shape) events s → Lawful OrderAt after (nothing_yet shape) events
order_lawful shape events s sound run =
    reached_lawful OrderAt shape (λ past x event t behind step.
    let l = log_of after (nothing_yet shape) past in
    let both = run_both shape past x sound behind in
    let folds = lane_folds shape past x sound behind in
    order_at x l event t (record {
      grounded = run_grounded shape past x sound behind;
      both = both;
      are = record { client = client_told x l both folds.a (run_sids shape past x sound behind); server = server_told x l both folds.b (no_sids shape past x sound behind) };
      client_phase = folds.a.folds.phase;
      server_phase = folds.b.folds.phase;
    }) step) events s run

pub own_resets_lawful : (shape : Shape) (events : List DiskEvent) (s : LaneState) → IsShape shape → Run LaneStep (fresh shape) events s → Lawful WorkResetAt after (nothing_yet shape) events
own_resets_lawful = grounded_lawful WorkResetAt own_resets_at

pub idle_lawful : (shape : Shape) (events : List DiskEvent) (s : LaneState) → IsShape shape → Run LaneStep (fresh shape) events s → Lawful IdleAt after (nothing_yet shape) events
idle_lawful = grounded_lawful IdleAt idle_at

-- with what its server works on, and its table
pub working_step : (s : LaneState) (l : DiskLog) (event : DiskEvent) (t : LaneState) → Working s l → LaneStep s event t → Working t (after l event)
working_step s l event t working step = record {
  grounded = record { knows = (knows_step s l event t working.grounded.knows step).1; sound = working.grounded.sound };
  work = work_step OfWork pieces_keep s event t working.work step;
  table = (same_pages s event t step).table ∙ working.table;
}

pub fresh_working : (shape : Shape) → IsShape shape → Working (fresh shape) (nothing_yet shape)
fresh_working shape sound = record { grounded = fresh_grounded shape sound; work = tt; table = refl }

pub run_working : (shape : Shape) (events : List DiskEvent) (s : LaneState) → IsShape shape → Run LaneStep (fresh shape) events s → Working s (log_of after (nothing_yet shape) events)
run_working shape events s sound run =
    (run_lawful LaneStep (λ (l : DiskLog) (e : DiskEvent). ⊤) after Working
    (λ (x : LaneState) (l : DiskLog) (e : DiskEvent) (y : LaneState) working step. (tt, working_step x l e y working step))
    (fresh shape) s (nothing_yet shape) events (fresh_working shape sound) run).1

pub pieces_lawful : (shape : Shape) (events : List DiskEvent) (s : LaneState) → IsShape shape → Run LaneStep (fresh shape) events s → Lawful PiecesAt after (nothing_yet shape) events
pieces_lawful shape events s sound run =
    (run_lawful LaneStep PiecesAt after Working
    (λ (x : LaneState) (l : DiskLog) (e : DiskEvent) (y : LaneState) working step. (pieces_at x l e y working step, working_step x l e y working step))
    (fresh shape) s (nothing_yet shape) events (fresh_working shape sound) run).0

pub ranges_lawful : (shape : Shape) (events : List DiskEvent) (s : LaneState) → IsShape shape → Run LaneStep (fresh shape) events s → Lawful RangesAt after (nothing_yet shape) events
ranges_lawful shape events s sound run =
    reached_lawful RangesAt shape (λ past x event t behind step.
    let l = log_of after (nothing_yet shape) past in
    let both = run_both shape past x sound behind in
    let folds = lane_folds shape past x sound behind in
    ranges_at x l event t (run_grounded shape past x sound behind).sound both (record {
      client = client_told x l both folds.a (run_sids shape past x sound behind);
      server = server_told x l both folds.b (no_sids shape past x sound behind);
    }) step) events s run
