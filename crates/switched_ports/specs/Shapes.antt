-- The ports that a switch is made with.
use Rattle.std.specs.Prelude.{◌≡◌, ℕ, List, map, Some, slice_get}
use Rattle.net_lane.specs.NetLaneState.{NetLaneState, NetShape, fresh_net}
use Rattle.switched_ports.specs.declared.shape.PortShape.{PortShape}

abbrev pub shape_of : PortShape → NetShape
shape_of shape = record { address = shape.address; slots = shape.slots; entries = shape.entries }

abbrev pub shapes_of : List PortShape → List NetShape
shapes_of shapes = map shape_of shapes

abbrev pub lane_of : PortShape → NetLaneState
lane_of shape = fresh_net (shape_of shape)

-- no two of them have one address
abbrev pub AddressesDiffer : List NetShape → Type 0
AddressesDiffer shapes = (j k : ℕ) (s t : NetShape) → slice_get shapes j ≡ Some s → slice_get shapes k ≡ Some t
    → s.address ≡ t.address → j ≡ k
