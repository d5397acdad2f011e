-- To which ports a frame goes that the switch's end of a port took, by the states of all ports before it.
use Rattle.std.specs.Prelude.{ℕ, List, map, take, Option, Some, None, ⊤}
use Rattle.vnet_switch.specs.Forward.{GetsFrame, PortIs}
use Rattle.vnet_switch.specs.PortSet.{IsSetOf}
use Rattle.vnet_switch.specs.PortView.{PortView}
use Rattle.vnet_switch.specs.Queues.{QueueHasRoom, IsFull}
use Rattle.port_laws.specs.NetEndState.{NetSession}
use Rattle.port_laws.specs.PortState.{PortState}
use Rattle.switch_laws.specs.Events.{OnPort, SwitchEvent, Switched}

-- A PORT AS THE SWITCH SEES IT: its address while the session of its end at the switch is open, the groups that this
-- end was told, and its out queue. The queue has room for as many frames as a ring.
abbrev pub address_in : Option NetSession → List ℕ → Option (List ℕ)
address_in None address = None
address_in (Some session) address = Some address

abbrev pub port_view : PortState → PortView (List ℕ)
port_view s = record {
  address = address_in s.lane.hub.session s.lane.shape.address;
  groups = s.lane.hub.groups;
  room = s.lane.shape.slots;
  queue = s.queue;
}

abbrev pub views : List PortState → List (PortView (List ℕ))
views ports = map port_view ports

-- whom the first six bytes of the frame name, but for the port that it came from
abbrev pub GoesTo : List PortState → (from : ℕ) → (frame : List ℕ) → ℕ → Type 0
GoesTo ports from frame k = GetsFrame (views ports) (take 6 frame) from k

-- ONE SET gets the frame, and the other lacks it: all whom it is for, whether their out queue has room or is full
pub record Forwards (ports : List PortState) (from : ℕ) (frame : List ℕ) (out full : ℕ) : Type 0 where
  pub gets : IsSetOf out (λ k. GoesTo ports from frame k × PortIs (views ports) k QueueHasRoom)
  pub lacks : IsSetOf full (λ k. GoesTo ports from frame k × PortIs (views ports) k IsFull)

abbrev pub SeesSwitch : List PortState → ℕ → SwitchEvent → Type 0
SeesSwitch ports from (Switched frame out full) = Forwards ports from frame out full
SeesSwitch ports from (OnPort event) = ⊤
