use Rattle.lane_models.specs.NetLaneState.{net_end}
use Rattle.lane_models.proofs.FramesKept.{lost_leave, reached_stands}
use Rattle.lane_models.proofs.frame_laws.frames_stand_in_order.Goals as goal

pub returns : goal.returns
returns c = record { order = reached_stands; lost = λ s reached e role. lost_leave role (net_end e s) (reached_stands s reached e) }
