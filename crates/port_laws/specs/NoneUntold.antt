-- No group is left untold where two ends of a port are idle, one directly after the other, and the switch's end knows them all.
use Rattle.std.specs.Prelude.{◌≡◌, false, Some, ⊤}
use Rattle.ldc_queue.specs.Wire.{peer_of}
use Rattle.lane_models.specs.EndLog.{SessionLog}
use Rattle.lane_models.specs.FrameLaws.{InSession, ToldAll}
use Rattle.lane_models.specs.NetEndStep.{Idle}
use Rattle.lane_models.specs.NetEvent.{Steps}
use Rattle.lane_models.specs.PortLog.{PortLog}
use Rattle.lane_models.specs.PortState.{OnLane, PortEvent}

-- the switch's end has the guest's list
abbrev pub KnowsAll : PortLog → SessionLog → Type 0
KnowsAll l v = v.groups ≡ l.members

-- the guest told all that it joined, and that was answered
abbrev pub NoneUntoldAt : PortLog → PortEvent → Type 0
NoneUntoldAt l (OnLane (Steps e Idle)) =
    l.last_idle ≡ Some (peer_of e) → l.wire.forged ≡ false → l.wire.lossy ≡ false
    → InSession l.guest.session (ToldAll l) × InSession l.hub.session (KnowsAll l)
NoneUntoldAt l _ = ⊤
