-- A lane is lossy exactly where a packet was lost behind the last event that emptied its queues.
use Rattle.std.proofs.Common.{List, map, ap, subst}
use Rattle.runs.specs.Lawful.{log_of}
use Rattle.runs.specs.Run.{Run}
use Rattle.lane_models.specs.WireLog.{WireLog}
use Rattle.lane_models.proofs.LossesTold.{loss_kept, loss_told}
use Rattle.lane_models.specs.DiskEvent.{DiskEvent}
use Rattle.lane_models.specs.LaneState.{IsShape, LaneState, Shape, fresh}
use Rattle.lane_models.specs.LaneStep.{LaneStep}
use Rattle.lane_models.specs.Offering.{client_offer, server_offer}
use Rattle.lane_laws.specs.ChannelEnds.{core_event, core_of}
use Rattle.lane_laws.specs.DiskLog.{after, nothing_yet}
use Rattle.lane_laws.specs.LossTold.{TellsLoss}
use Rattle.lane_laws.proofs.LaneCores.{lane_cores, lane_fits}
use Rattle.lane_laws.proofs.WorkRuns.{run_grounded}

pub state_tells : (shape : Shape) (events : List DiskEvent) (s : LaneState) → IsShape shape → Run LaneStep (fresh shape) events s → TellsLoss shape events s.wire.lossy
state_tells shape events s sound run =
    let asks = client_offer shape.blocks shape.slots in
    let answers = server_offer shape.blocks shape.slots in
    let fits = lane_fits shape sound in
    let cores = lane_cores shape events s sound run in
    record {
      lossy = loss_told shape.entries asks answers (map core_event events) (core_of s) fits cores;
      lost = loss_kept shape.entries asks answers (map core_event events) (core_of s) fits cores;
    }

pub log_tells : (shape : Shape) (events : List DiskEvent) (s : LaneState) → IsShape shape → Run LaneStep (fresh shape) events s
    → TellsLoss shape events (log_of after (nothing_yet shape) events).wire.lossy
log_tells shape events s sound run =
    subst (TellsLoss shape events) (ap (λ (w : WireLog). w.lossy) (run_grounded shape events s sound run).knows.all.stands.wire) (state_tells shape events s sound run)
