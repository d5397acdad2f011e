-- A lane that some events lead to, and one event more.
use Rattle.std.proofs.Common.{◌≡◌, refl, sym, subst, ℕ, List, [], ◌∷◌, ◌++◌, Option}
use Rattle.runs.specs.Run.{run_push}
use Rattle.ldc_queue.specs.declared.end.End.TheVariants.{B}
use Rattle.vio_tag.specs.declared.cause.Cause.{Cause}
use Rattle.lane_models.specs.WireEvent as wire
use Rattle.lane_models.specs.WireEvent.{Giver, giver}
use Rattle.lane_models.proofs.OwnSteps.{server_resets_own}
use Rattle.lane_models.specs.DiskEvent.{DiskEvent}
use Rattle.lane_models.specs.LaneState.{IsShape, LaneState, Shape, fresh}
use Rattle.lane_models.specs.LaneStep.{LaneStep, ResetBy, ServerOnWire, reach}
use Rattle.lane_models.specs.Reached.{IsReached}
use Rattle.lane_models.specs.Seeing.{seen}
use Rattle.lane_models.specs.Served.{Served, ServedStep}
use Rattle.lane_models.specs.ServerRule.{server_rule}
use Rattle.lane_laws.proofs.RingPages.{same_pages}
use Rattle.vdisk_server.specs.Answering.{server_event}
use Rattle.vdisk_server.specs.declared.answers.ServerOut.{ServerOut}
use Rattle.vdisk_server.specs.declared.answers.ServerOut.TheVariants as out

pub reached_fresh : (shape : Shape) → IsShape shape → IsReached (fresh shape)
reached_fresh shape sound = record { shape = shape; sound = sound; events = []; run = refl }

pub reached_more : (s t : LaneState) (event : DiskEvent) → IsReached s → LaneStep s event t → IsReached t
reached_more s t event reached step = record {
  shape = reached.shape;
  sound = reached.sound;
  events = reached.events ++ event ∷ [];
  run = run_push LaneStep (fresh reached.shape) s t reached.events event reached.run step;
}

-- A step of the server is one of its lane, whatever its store did.
module _ (s t : LaneState) (gave : List ℕ) where
  reset_lane : (cause : Cause) (packet : Option (List ℕ)) → ServerOnWire s gave (wire.Reset B cause packet 0) t → ResetBy (giver cause) B s cause packet 0 t
  reset_lane cause packet step =
      subst (λ (who : Giver). ResetBy who B s cause packet 0 t)
      (sym (server_resets_own (server_rule s.server (seen B s.shape.entries s.wire.wire)) s.server (reach s (seen B s.shape.entries s.wire.wire).both) cause packet t.memory step.step.1.0))
      (gave, step)

  answer_lane : (answer : ServerOut) → ServedStep s gave (server_event answer) t → LaneStep s (server_event answer) t
  answer_lane out.Idle step = (gave, step)
  answer_lane out.Blocked step = (gave, step)
  answer_lane out.Joined step = (gave, step)
  answer_lane (out.Took packet opens) step = (gave, step)
  answer_lane (out.Sent packet opens) step = (gave, step)
  answer_lane (out.Desc slot bytes) step = (gave, step)
  answer_lane (out.Moved unit fault) step = (gave, step)
  answer_lane (out.Stored operation block count failed) step = (gave, step)
  answer_lane (out.Finished slot status) step = (gave, step)
  answer_lane (out.Reset cause packet) step = reset_lane cause packet step

pub reached_served : (s t : LaneState) (told new : Option (List ℕ)) (answer : ServerOut) → IsReached s → Served s told (server_event answer) t new → IsReached t
reached_served s t told new answer reached served = reached_more s t (server_event answer) reached (answer_lane s t served.gave answer served.step)

-- no event changes the shape
pub keeps_shape : (s t : LaneState) (event : DiskEvent) → LaneStep s event t → t.shape ≡ s.shape
keeps_shape s t event step = (same_pages s event t step).shape

pub served_shape : (s t : LaneState) (told new : Option (List ℕ)) (answer : ServerOut) → Served s told (server_event answer) t new → t.shape ≡ s.shape
served_shape s t told new answer served = keeps_shape s t (server_event answer) (answer_lane s t served.gave answer served.step)
