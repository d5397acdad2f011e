-- Which steps of an end lower what remains whatever comes, which are calm, and what resets an end.
use Rattle.std.specs.Prelude.{◌≡◌, ⊤}
use Rattle.ldc_queue.specs.declared.end.End.{End}
use Rattle.ldc_queue.specs.declared.end.End.TheVariants.{A}
use Rattle.lane_models.specs.NetEndStep.{Blocked, Idle, Joined, NetAnswer, Published, Reset, Sent}
use Rattle.lane_models.specs.NetEvent.{Asked, Steps, Ticked}
use Rattle.lane_models.specs.PortState.{OnLane, PortEvent}

-- it takes nothing: it joins, puts a packet, or publishes a frame
abbrev pub TakesNothing : NetAnswer → Type 0
TakesNothing (Joined lost) = ⊤
TakesNothing (Sent packet opens) = ⊤
TakesNothing (Published id) = ⊤
TakesNothing _ = ⊥

-- it has nothing to do, or no room for its packet
abbrev pub IsCalm : NetAnswer → Type 0
IsCalm Blocked = ⊤
IsCalm Idle = ⊤
IsCalm _ = ⊥

-- it is reset: by its own step, by the script, or by a tick
abbrev pub IsReset : End → PortEvent → Type 0
IsReset e (OnLane (Steps end (Reset cause packet lost))) = end ≡ e
IsReset e (OnLane (Asked end lost)) = end ≡ e
IsReset e (OnLane (Ticked queued lost)) = A ≡ e
IsReset e _ = ⊥
