-- A lane that some events lead to, and one event more.
use Rattle.std.proofs.Common.{refl, [], ◌∷◌, ◌++◌}
use Rattle.runs.specs.Run.{run_push}
use Rattle.lane_models.specs.NetEvent.{NetEvent}
use Rattle.lane_models.specs.NetLaneState.{IsNetShape, NetLaneState, NetShape, fresh_net}
use Rattle.lane_models.specs.NetLaneStep.{NetLaneStep}
use Rattle.lane_models.specs.NetReached.{NetReached}

pub reached_fresh : (shape : NetShape) → IsNetShape shape → NetReached (fresh_net shape)
reached_fresh shape sound = record { shape = shape; sound = sound; events = []; run = refl }

pub reached_more : (s t : NetLaneState) (event : NetEvent) → NetReached s → NetLaneStep s event t → NetReached t
reached_more s t event reached step = record {
  shape = reached.shape;
  sound = reached.sound;
  events = reached.events ++ event ∷ [];
  run = run_push NetLaneStep (fresh_net reached.shape) s t reached.events event reached.run step;
}
