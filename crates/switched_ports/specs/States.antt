-- The ports as states: each lane with its out queue, which the switch keeps. And what is read of the port with a
-- number.
use Rattle.std.specs.Prelude.{ℕ, List, [], ◌∷◌, map, slice_get, IsSomeAnd}
use Rattle.std.specs.Option.{option_map_or}
use Rattle.ldc_queue.specs.declared.end.End.{End}
use Rattle.net_lane.specs.NetLaneState.{NetLaneState, NetShape, net_end}
use Rattle.port_laws.specs.PortState.{PortState}
use Rattle.vnet_switch.specs.PortView.{PortView}

abbrev pub state_of : NetLaneState → List (List ℕ) → PortState
state_of lane queue = record { lane = lane; queue = queue }

abbrev pub states : List NetLaneState → List (PortView (List ℕ)) → List PortState
states (lane ∷ lanes) (port ∷ views) = state_of lane port.queue ∷ states lanes views
states _ _ = []

abbrev pub lanes_in : List PortState → List NetLaneState
lanes_in ports = map (λ port. port.lane) ports

abbrev pub shapes_in : List PortState → List NetShape
shapes_in ports = map (λ port. port.lane.shape) ports

-- there is a port with this number, of which this holds
abbrev pub PortAt : List PortState → ℕ → (PortState → Type 0) → Type 0
PortAt ports k Holds = IsSomeAnd (slice_get ports k) Holds

-- its out queue; and the frame that an end of it took last
abbrev pub queue_at : ℕ → List PortState → List (List ℕ)
queue_at k ports = option_map_or (λ port. port.queue) (slice_get ports k) []

abbrev pub last_at : End → ℕ → List PortState → List ℕ
last_at e k ports = option_map_or (λ port. (net_end e port.lane).last) (slice_get ports k) []
