-- Along every run a lane agrees with its log.
use Rattle.std.proofs.Common.{◌≡◌, List, sym, ap, ◌∙◌}
use Rattle.runs.specs.Lawful.{log_of}
use Rattle.runs.specs.Run.{Run}
use Rattle.ldc_link.specs.declared.phase.Role.TheVariants.{Initiator, Responder}
use Rattle.lane_laws.specs.Agreement.{AgreesWithLog}
use Rattle.lane_laws.specs.DiskLog.{after, nothing_yet}
use Rattle.lane_models.specs.DiskEvent.{DiskEvent}
use Rattle.lane_models.specs.LaneState.{IsShape, LaneState, Shape, fresh}
use Rattle.lane_models.specs.LaneStep.{LaneStep}
use Rattle.lane_laws.proofs.EndsFold.{client_end, run_both, server_end}
use Rattle.lane_laws.proofs.FailedRuns.{run_failed}
use Rattle.lane_laws.proofs.FirstStays.{run_first}
use Rattle.lane_laws.proofs.LaneCores.{shape_of as log_shape}
use Rattle.lane_laws.proofs.IdleRuns.{idle_agrees}
use Rattle.lane_laws.proofs.LaneCounting.{run_knows}
use Rattle.lane_laws.proofs.RingAlong.{run_ring}
use Rattle.lane_laws.proofs.RingRuns.{ring_agrees}
use Rattle.lane_laws.proofs.NearAgreeing as near
use Rattle.lane_laws.proofs.WorkNexts.{next_agrees}
use Rattle.lane_laws.proofs.WorkRuns.{run_working}
use Rattle.lane_laws.proofs.LaneChannel.{client_stands, lane_folds, link_agrees, no_sids, run_sids, server_stands}
use Rattle.lane_laws.specs.ChannelEnds.{client_core, server_core}

pub run_agrees : (shape : Shape) (events : List DiskEvent) (s : LaneState) → IsShape shape → Run LaneStep (fresh shape) events s → AgreesWithLog s (log_of after (nothing_yet shape) events)
run_agrees shape events s sound run =
    let l = log_of after (nothing_yet shape) events in
    let knows = run_knows shape events s sound run in
    let stands = knows.all.stands in
    let both = run_both shape events s sound run in
    let working = run_working shape events s sound run in
    let first : s.server.first ≡ l.shape.first = run_first shape events s sound run ∙ ap (λ (x : Shape). x.first) (sym (log_shape (nothing_yet shape) events)) in
    let folds = lane_folds shape events s sound run in
    record {
      shape = stands.shape;
      wire = stands.wire;
      table = working.table;
      stopped = stands.stopped;
      failed = run_failed shape events s run;
      client_link = link_agrees Initiator (client_core s.client) l.transcript.a (client_stands shape events s sound run);
      server_link = link_agrees Responder (server_core s.server) l.transcript.b (server_stands shape events s sound run);
      sids = run_sids shape events s sound run;
      client_end = client_end s l both folds.a (run_sids shape events s sound run);
      server_end = server_end s l both folds.b (no_sids shape events s sound run) first;
      requests = record { pending = stands.requests.pending; next = stands.requests.next };
      client = knows.counted.client.agrees;
      server = knows.counted.server.agrees;
      next = next_agrees s.server.session s.server.work l.work.server knows.counted.server.agrees knows.counted.server.unit working.work;
      near = λ clean. near.run_agrees shape events s sound run clean;
      idle = idle_agrees shape events s sound run;
      ring = λ clean. ring_agrees s l (run_ring shape events s sound run) clean;
    }
