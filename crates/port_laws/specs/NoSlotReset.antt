-- No end of a port resets itself for a slot where nobody forged.
use Rattle.std.specs.Prelude.{◌≡◌, true, None, ⊤}
use Rattle.lane_models.specs.NetEndStep.{Reset}
use Rattle.lane_models.specs.NetEvent.{Steps}
use Rattle.lane_models.specs.PortLog.{PortLog}
use Rattle.lane_models.specs.PortState.{OnLane, PortEvent}

-- a step's reset without a packet, which is for a slot
abbrev pub NoSlotResetAt : PortLog → PortEvent → Type 0
NoSlotResetAt l (OnLane (Steps e (Reset cause None lost))) = l.wire.forged ≡ true
NoSlotResetAt l _ = ⊤
