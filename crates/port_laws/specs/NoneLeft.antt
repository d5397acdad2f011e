-- What is left where two ends of a port are idle, one directly after the other: no frame is published and not acknowledged, and the guest
-- holds none.
use Rattle.std.specs.Prelude.{◌≡◌, false, Some, ⊤}
use Rattle.ldc_queue.specs.Wire.{peer_of}
use Rattle.lane_models.specs.EndLog.{SessionLog, held}
use Rattle.lane_models.specs.FrameLaws.{InSession}
use Rattle.lane_models.specs.NetEndStep.{Idle}
use Rattle.lane_models.specs.NetEvent.{Steps}
use Rattle.lane_models.specs.PortLog.{PortLog}
use Rattle.lane_models.specs.PortState.{OnLane, PortEvent}

-- each frame that was published in the session is acknowledged
abbrev pub AllSeen : SessionLog → Type 0
AllSeen v = v.seen ≡ v.published

pub record NoneLeft (l : PortLog) : Type 0 where
  pub guest : InSession l.guest.session AllSeen
  pub hub : InSession l.hub.session AllSeen
  pub none : held l.guest ≡ 0

abbrev pub NoneLeftAt : PortLog → PortEvent → Type 0
NoneLeftAt l (OnLane (Steps e Idle)) = l.last_idle ≡ Some (peer_of e) → l.wire.forged ≡ false → l.wire.lossy ≡ false → NoneLeft l
NoneLeftAt l _ = ⊤
