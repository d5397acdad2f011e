-- A port: its lane, and the out queue in which the switch keeps frames for it. Before a step of the switch's end a
-- frame moves from the queue to that end, where its session is open and it has room.
use Rattle.std.specs.Prelude.{◌≡◌, ℕ, ◌<◌, ◌&&◌, nat_lt, Bool, true, is_some, List, [], ◌∷◌, ◌++◌, length, ⊤}
use Rattle.ldc_queue.specs.declared.end.End.TheVariants.{B}
use Rattle.vnet_msg.specs.Frames.{IsFrame}
use Rattle.lane_models.specs.NetEndState.{NetEndState, with_frame}
use Rattle.lane_models.specs.NetEvent.{CalmTick, Gives, NetEvent, Steps, Ticked}
use Rattle.lane_models.specs.NetLaneState.{NetLaneState, NetShape, fresh_net}
use Rattle.lane_models.specs.NetLaneStep.{NetLaneStep}

pub record PortState : Type 0 where
  pub lane : NetLaneState
  -- first what has waited longest
  pub queue : List (List ℕ)

abbrev pub fresh_port : NetShape → PortState
fresh_port shape = record { lane = fresh_net shape; queue = [] }

-- an event of its lane; or another port's frame that the switch put into the queue
pub data PortEvent : Type 0 where
  OnLane : NetEvent → PortEvent
  Receives : (frame : List ℕ) → PortEvent

-- THE FRAME THAT MOVES
abbrev pub takes_more : NetEndState → Bool
takes_more hub = is_some hub.session && nat_lt (length hub.frames) hub.slots

abbrev pub moves_first : Bool → List (List ℕ) → PortState → PortState
moves_first true (frame ∷ frames) s = record { lane = record s.lane { hub = with_frame frame s.lane.hub }; queue = frames }
moves_first _ _ s = s

abbrev pub moved : PortState → PortState
moved s = moves_first (takes_more s.lane.hub) s.queue s

abbrev pub before : NetEvent → PortState → PortState
before (Steps B answer) s = moved s
before _ s = s

-- WHERE AN EVENT MAY STAND by the queue: a tick looks at how many frames are in it, and the switch's end is given
-- frames by moves alone
abbrev pub OfQueue : PortState → NetEvent → Type 0
OfQueue s (Ticked queued lost) = queued ≡ length s.queue
OfQueue s (CalmTick queued) = queued ≡ length s.queue
OfQueue s (Gives B given) = ⊥
OfQueue s _ = ⊤

-- THE STEP. The queue has room for as many frames as the ring.
abbrev pub PortStep : PortState → PortEvent → PortState → Type 0
PortStep s (OnLane event) t = OfQueue s event × NetLaneStep (before event s).lane event t.lane × (t.queue ≡ (before event s).queue)
PortStep s (Receives frame) t =
    IsFrame frame × (length s.queue < s.lane.shape.slots) × (t ≡ record s { queue = s.queue ++ frame ∷ [] })
