-- A server's region begins at its disk's first block, along every run.
use Rattle.std.proofs.Common.{◌≡◌, ℕ, Bool, Some, List, [], refl, ap, ◌∙◌, arith}
use Rattle.std.specs.Prelude.{⊤}
use Rattle.runs.specs.Lawful.{log_of, run_lawful}
use Rattle.runs.specs.Run.{Run}
use Rattle.ldc_queue.specs.declared.end.End.TheVariants.{B}
use Rattle.ldc_queue.specs.Transcript.{Utterance}
use Rattle.lane_models.specs.WireEvent.{Blocked, Idle, Joined, Reset, Sent, Took}
use Rattle.lane_laws.proofs.ServerSpeaking.{server_holds_link}
use Rattle.lane_laws.specs.DiskLog.{DiskLog, after, nothing_yet}
use Rattle.lane_models.specs.DiskEvent.{Desc, DiskEvent, Finished, Moved, OnWire, Stored, Works}
use Rattle.lane_models.specs.LaneState.{IsShape, LaneState, Shape, fresh}
use Rattle.lane_models.specs.LaneStep.{LaneStep}
use Rattle.lane_models.specs.ServerPutting.{server_holds}
use Rattle.lane_models.specs.ServerRule as server
use Rattle.lane_models.specs.ServerState.{ServerState}
use Rattle.lane_laws.proofs.Agreeing.{always_agree}
use Rattle.lane_laws.proofs.LaneCounting.{Knows, run_knows}
use Rattle.lane_laws.proofs.LaneViews.{ServerSide, at_server, reach_of, server_keeps}
use Rattle.lane_models.specs.ServerStep.{ServerStep}
use Rattle.lane_laws.proofs.RingAlong.{Along, along_run, along_step}
use Rattle.lane_laws.proofs.ServerTaken.{ServerTook, server_took_what}
-- the log keeps its disk
pub use Rattle.lane_laws.proofs.LaneCores.{shape_of as log_shape}

held_first : (s : ServerState) (rule : server.ServerRule) (held : ServerState) → server_holds rule s ≡ Some held → held.first ≡ s.first
held_first s rule held is = ap (λ (x : ServerState). x.first) (server_holds_link s rule held is)

took_first : (s : ServerState) (turns : List Utterance) (packet : List ℕ) (t : ServerState) (opens : Bool) → ServerTook s turns packet t opens → t.first ≡ s.first
took_first s turns packet t opens took = grind arith

-- ITS STEPS, and each event
steps_first : (s : LaneState) (l : DiskLog) → Knows s l → (event : DiskEvent) (gave : List ℕ) (t : ServerState) (new : List ℕ)
    → ServerStep s.server (at_server s) (reach_of s) gave event t new → t.first ≡ s.server.first
steps_first s l knows (OnWire (Joined B lost)) gave t new step = ap (λ (x : ServerState). x.first) step.2
steps_first s l knows (OnWire (Took B packet opens)) gave t new step =
    took_first s.server l.transcript.b packet t opens (server_took_what s.server l.transcript.b packet t opens knows.rests.server.stands.link.follows knows.rests.server.whole step.1)
steps_first s l knows (OnWire (Sent B packet opens)) gave t new step =
    ap (λ (x : ServerState). x.first) step.0.is ∙ held_first s.server (server.server_rule s.server (at_server s)) step.0.held step.0.holds
steps_first s l knows (OnWire (Blocked B)) gave t new step = held_first s.server (server.server_rule s.server (at_server s)) t step.0
steps_first s l knows (OnWire (Idle B)) gave t new step = ap (λ (x : ServerState). x.first) step.1
steps_first s l knows (OnWire (Reset B cause packet lost)) gave t new step = ap (λ (x : ServerState). x.first) step.2
steps_first s l knows (Works (Desc slot bytes)) gave t new step = ap (λ (x : ServerState). x.first) step.0.is
steps_first s l knows (Works (Moved unit fault)) gave t new step = ap (λ (x : ServerState). x.first) step.0.is
steps_first s l knows (Works (Stored operation block count failed)) gave t new step = ap (λ (x : ServerState). x.first) step.0.is
steps_first s l knows (Works (Finished slot status)) gave t new step = ap (λ (x : ServerState). x.first) step.0.is
steps_first s l knows _ gave t new step = absurd step

event_first : (s : LaneState) (l : DiskLog) (event : DiskEvent) (t : LaneState) → Knows s l → LaneStep s event t → t.server.first ≡ s.server.first
event_first s l event t knows step =
    server_keeps (λ (v : ServerState) (side : ServerSide). v.first ≡ s.server.first) s l event t (record { now = refl; acts = steps_first s l knows; joined = refl; renewed = refl }) step

-- ALONG A RUN
record AlongFirst (shape : Shape) (s : LaneState) (l : DiskLog) : Type 0 where
  along : Along shape s l
  first : s.server.first ≡ shape.first

first_step : (shape : Shape) → IsShape shape → (s : LaneState) (l : DiskLog) (event : DiskEvent) (t : LaneState) → AlongFirst shape s l → LaneStep s event t → ⊤ × AlongFirst shape t (after l event)
first_step shape sound s l event t holds step = (
  tt,
  record {
    along = (along_step shape (always_agree shape sound) s l event t holds.along step).1;
    first =
        let along = holds.along in
        event_first s (log_of after (nothing_yet shape) along.events) event t (run_knows shape along.events s sound along.run) step ∙ holds.first;
  },
)

pub run_first : (shape : Shape) (events : List DiskEvent) (s : LaneState) → IsShape shape → Run LaneStep (fresh shape) events s → s.server.first ≡ shape.first
run_first shape events s sound run =
    (run_lawful LaneStep (λ (l : DiskLog) (e : DiskEvent). ⊤) after (AlongFirst shape) (first_step shape sound) (fresh shape) s (nothing_yet shape) events
    (record { along = along_run shape [] (fresh shape) sound (always_agree shape sound) refl; first = refl }) run).1.first
