-- Along every run the steps of an end that take nothing lower what remains.
use Rattle.std.proofs.Common.{◌≡◌, ℕ, ◌+◌, ◌*◌, ◌≤◌, ◌<◌, true, Option, List, length, arith}
use Rattle.runs.specs.Lawful.{log_of}
use Rattle.runs.specs.Run.{Run}
use Rattle.ldc_queue.specs.declared.end.End.{End}
use Rattle.vio_tag.specs.declared.cause.Cause.{Cause}
use Rattle.lane_models.specs.WireAt.{IsUp}
use Rattle.lane_models.specs.WireEvent.{Reset}
use Rattle.lane_models.specs.DiskEvent.{DiskEvent, OnWire}
use Rattle.lane_models.specs.LaneState.{IsShape, LaneState, Shape, fresh}
use Rattle.lane_models.specs.LaneStep.{LaneStep}
use Rattle.lane_laws.proofs.LaneCounting.{run_knows}
use Rattle.lane_laws.proofs.RemainingBounds.{EndsStand, reset_falls, reset_remains}
use Rattle.lane_laws.proofs.RemainingLane.{step_falls}
use Rattle.lane_laws.specs.DiskLog.{DiskLog, after, nothing_yet}
use Rattle.lane_laws.specs.Remaining.{remaining}
use Rattle.lane_laws.specs.RemainingSteps.{TakesNothing}

abbrev log_behind : Shape → List DiskEvent → DiskLog
log_behind shape events = log_of after (nothing_yet shape) events

ends_stand : (shape : Shape) (events : List DiskEvent) (s : LaneState) → IsShape shape → Run LaneStep (fresh shape) events s → EndsStand s (log_behind shape events).transcript
ends_stand shape events s sound run = let rests = (run_knows shape events s sound run).rests in record { client = rests.client.stands; server = rests.server.stands }

less_by_one : (n m : ℕ) → n + 1 ≤ m → n < m
less_by_one n m less = omega (arith, less)

pub steps_fall : (shape : Shape) (events : List DiskEvent) (s : LaneState) (event : DiskEvent) (t : LaneState) → IsShape shape → Run LaneStep (fresh shape) events s
    → LaneStep s event t → TakesNothing event → remaining t < remaining s
steps_fall shape events s event t sound run step is =
    less_by_one (remaining t) (remaining s) (step_falls s (log_behind shape events) event t (run_knows shape events s sound run) step is)

pub resets_remain : (shape : Shape) (events : List DiskEvent) (s : LaneState) (e : End) (cause : Cause) (packet : Option (List ℕ)) (lost : ℕ) (t : LaneState) → IsShape shape
    → Run LaneStep (fresh shape) events s → IsUp e s.wire.wire → LaneStep s (OnWire (Reset e cause packet lost)) t → remaining t ≡ 35 + 16 * length s.client.pending
resets_remain shape events s e cause packet lost t sound run up step =
    reset_remains s e cause packet lost t (log_behind shape events).transcript (ends_stand shape events s sound run) up step

pub resets_fall : (shape : Shape) (events : List DiskEvent) (s : LaneState) (e : End) (cause : Cause) (packet : Option (List ℕ)) (lost : ℕ) (t : LaneState) → IsShape shape
    → Run LaneStep (fresh shape) events s → IsUp e s.wire.wire → s.wire.lossy ≡ true → LaneStep s (OnWire (Reset e cause packet lost)) t → remaining t < remaining s
resets_fall shape events s e cause packet lost t sound run up lossy step =
    reset_falls s e cause packet lost t (log_behind shape events).transcript (ends_stand shape events s sound run) up lossy step
