-- Every run of a lane is lawful: each event may stand after those before it, by each of the laws.
use Rattle.std.proofs.Common.{List}
use Rattle.runs.specs.Lawful.{log_of}
use Rattle.runs.specs.Run.{Run, run_push}
use Rattle.lane_models.specs.DiskEvent.{DiskEvent}
use Rattle.lane_laws.specs.DiskLog.{after, nothing_yet}
use Rattle.lane_laws.specs.May.{IsLawful, May}
use Rattle.lane_models.specs.LaneState.{IsShape, LaneState, Shape, fresh}
use Rattle.lane_models.specs.LaneStep.{LaneStep}
use Rattle.lane_laws.proofs.AlongRuns.{OneMore, lawful_last, reached_lawful}
use Rattle.lane_laws.proofs.CarriedRuns.{carries_lawful}
use Rattle.lane_laws.proofs.EndsWorking.{works_lawful}
use Rattle.lane_laws.proofs.FramesLost.{lost_lawful}
use Rattle.lane_laws.proofs.LaneChannel.{heard_lawful, said_lawful}
use Rattle.lane_laws.proofs.TickLaw.{tick_lawful}
use Rattle.lane_laws.proofs.StandingRuns.{admission_lawful, once_lawful, runs_lawful}
use Rattle.lane_laws.proofs.TableRuns.{answers_lawful, table_lawful}
use Rattle.lane_laws.proofs.LaneResets.{gaps_lawful, resets_lawful}
use Rattle.lane_laws.proofs.NearOrder.{near_lawful}
use Rattle.lane_laws.proofs.OpeningLaw.{openings_lawful}
use Rattle.lane_laws.proofs.OwnResets as own
use Rattle.lane_laws.proofs.StatusRuns as status
use Rattle.lane_laws.proofs.TwoIdle.{two_idle_lawful}
use Rattle.lane_laws.proofs.WorkRuns.{idle_lawful, numbers_lawful, order_lawful, own_resets_lawful, pieces_lawful, ranges_lawful}

-- each event may stand after those before it, by each law
may_stand : (shape : Shape) (events : List DiskEvent) (event : DiskEvent) → OneMore shape events event → May (log_of after (nothing_yet shape) events) event
may_stand shape events event more = record {
  table = lawful_last table_lawful more;
  answers = lawful_last answers_lawful more;
  said = lawful_last said_lawful more;
  heard = lawful_last heard_lawful more;
  gap = lawful_last gaps_lawful more;
  reset_says = lawful_last resets_lawful more;
  lost = lawful_last lost_lawful more;
  unforged_wire = lawful_last own.unforged_lawful more;
  admission = lawful_last admission_lawful more;
  once = lawful_last once_lawful more;
  carries = lawful_last carries_lawful more;
  runs = lawful_last runs_lawful more;
  works = lawful_last works_lawful more;
  numbers = lawful_last numbers_lawful more;
  order = lawful_last order_lawful more;
  ranges = lawful_last ranges_lawful more;
  pieces = lawful_last pieces_lawful more;
  openings = lawful_last openings_lawful more;
  own_resets = lawful_last own_resets_lawful more;
  unforged_work = lawful_last status.unforged_lawful more;
  near = lawful_last near_lawful more;
  idle = lawful_last idle_lawful more;
  two_idle = lawful_last two_idle_lawful more;
  tick = lawful_last tick_lawful more;
}

pub every_run : (shape : Shape) (events : List DiskEvent) (s : LaneState) → IsShape shape → Run LaneStep (fresh shape) events s → IsLawful shape events
every_run shape events s sound run =
    reached_lawful May shape (λ before x event y run_x step.
    may_stand shape before event (record { sound = sound; left = y; run = run_push LaneStep (fresh shape) x y before event run_x step })) events s run
