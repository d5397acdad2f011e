-- Along every run: where the last event was an idle step of an end, resting is still that end's next step.
use Rattle.std.proofs.Common.{◌≡◌, ℕ, List, sym, subst, Some, arith}
use Rattle.std.specs.Prelude.{⊤}
use Rattle.runs.specs.Lawful.{log_of, run_lawful}
use Rattle.runs.specs.Run.{Run}
use Rattle.ldc_queue.specs.declared.end.End.{End}
use Rattle.ldc_queue.specs.declared.end.End.TheVariants.{A, B}
use Rattle.lane_models.specs.WireEvent.{Idle}
use Rattle.lane_laws.specs.Agreement.{IdleAgrees}
use Rattle.lane_laws.specs.DiskLog.{DiskLog, after, nothing_yet}
use Rattle.lane_models.specs.ClientState.{ClientState}
use Rattle.lane_models.specs.DiskEvent.{DiskEvent, OnWire}
use Rattle.lane_models.specs.LaneState.{IsShape, LaneState, Shape, fresh}
use Rattle.lane_models.specs.LaneStep.{EndOnWire, LaneStep}
use Rattle.lane_models.specs.ServerState.{ServerState}

with_client : LaneState → ClientState → List ℕ → LaneState
with_client s c memory = record s { client = c; memory = memory }

with_server : LaneState → ServerState → List ℕ → LaneState
with_server s v memory = record s { server = v; memory = memory }

-- an idle step leaves the lane as it was
pub client_same : (s : LaneState) (t : LaneState) → EndOnWire A s (Idle A) t → t ≡ s
unfolding with_client
client_same s t step = grind arith

pub server_same : (s : LaneState) (t : LaneState) → EndOnWire B s (Idle B) t → t ≡ s
unfolding with_server
server_same s t step = grind arith

idle_end : (e : End) (s : LaneState) (t : LaneState) → EndOnWire e s (Idle e) t → IdleAgrees t (Some e)
idle_end A s t step = subst (λ (x : LaneState). IdleAgrees x (Some A)) (sym (client_same s t step)) step.step.0
idle_end B s t step = subst (λ (x : LaneState). IdleAgrees x (Some B)) (sym (server_same s t step)) (step.1.step.0, step.1.step.1.0)

idle_step : (s : LaneState) (l : DiskLog) (event : DiskEvent) (t : LaneState) → LaneStep s event t → IdleAgrees t (after l event).last_idle
idle_step s l (OnWire (Idle e)) t step = idle_end e s t step
idle_step s l _ t step = tt

pub idle_agrees : (shape : Shape) (events : List DiskEvent) (s : LaneState) → IsShape shape → Run LaneStep (fresh shape) events s → IdleAgrees s (log_of after (nothing_yet shape) events).last_idle
idle_agrees shape events s sound run =
    (run_lawful LaneStep (λ (l : DiskLog) (e : DiskEvent). ⊤) after (λ (x : LaneState) (l : DiskLog). IdleAgrees x l.last_idle)
    (λ (x : LaneState) (l : DiskLog) (e : DiskEvent) (y : LaneState) agrees step. (tt, idle_step x l e y step))
    (fresh shape) s (nothing_yet shape) events tt run).1
