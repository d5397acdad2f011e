-- Where an end is idle directly after the other, where nobody forged and nothing was lost, nothing is pending and both sessions are open.
use Rattle.std.proofs.Common.{Some, List, ap, ◌∙◌, subst}
use Rattle.runs.specs.Lawful.{Lawful, log_of}
use Rattle.runs.specs.Run.{Run}
use Rattle.ldc_queue.specs.declared.end.End.{End}
use Rattle.ldc_queue.specs.declared.end.End.TheVariants.{A, B}
use Rattle.ldc_queue.specs.Wire.{peer_of}
use Rattle.lane_models.specs.WireEvent.{Idle}
use Rattle.lane_models.specs.WireLog.{WireLog}
use Rattle.lane_laws.specs.Agreement.{IdleAgrees}
use Rattle.lane_laws.specs.DiskLog.{after, nothing_yet}
use Rattle.lane_laws.specs.QuietLaws.{TwoIdleAt}
use Rattle.lane_models.specs.DiskEvent.{DiskEvent, OnWire}
use Rattle.lane_models.specs.LaneState.{IsShape, LaneState, Shape, fresh}
use Rattle.lane_models.specs.LaneStep.{EndOnWire, LaneStep}
use Rattle.lane_laws.proofs.IdleRuns.{idle_agrees}
use Rattle.lane_laws.proofs.AlongRuns.{reached_lawful}
use Rattle.lane_laws.proofs.QuietEnds.{BothRest, quiet_ends}
use Rattle.lane_laws.proofs.WorkNumbers.{Grounded}
use Rattle.lane_laws.proofs.WorkRuns.{run_grounded}

idle_behind : (e : End) (s t : LaneState) → EndOnWire e s (Idle e) t → IdleAgrees s (Some (peer_of e)) → BothRest s
idle_behind A s t step agrees = record { client = step.step.0; server = agrees.1 }
idle_behind B s t step agrees = record { client = agrees; server = step.1.step.1.0 }

two_idle_at : (shape : Shape) (events : List DiskEvent) (s : LaneState) (event : DiskEvent) (t : LaneState) → IsShape shape → Run LaneStep (fresh shape) events s → LaneStep s event t
    → TwoIdleAt (log_of after (nothing_yet shape) events) event
two_idle_at shape events s (OnWire (Idle e)) t sound run step = λ last clean whole.
    let l = log_of after (nothing_yet shape) events in
    let grounded : Grounded s l = run_grounded shape events s sound run in
    let rest : BothRest s = idle_behind e s t step (subst (IdleAgrees s) last (idle_agrees shape events s sound run)) in
    (quiet_ends shape events s sound run (ap (λ (w : WireLog). w.forged) grounded.knows.all.stands.wire ∙ clean) (ap (λ (w : WireLog). w.lossy) grounded.knows.all.stands.wire ∙ whole) grounded rest).at_rest
two_idle_at shape events s _ t sound run step = tt

-- ALONG EVERY RUN
pub two_idle_lawful : (shape : Shape) (events : List DiskEvent) (s : LaneState) → IsShape shape → Run LaneStep (fresh shape) events s → Lawful TwoIdleAt after (nothing_yet shape) events
two_idle_lawful shape events s sound run =
    reached_lawful TwoIdleAt shape (λ before x event y run_x step. two_idle_at shape before x event y sound run_x step) events s run
