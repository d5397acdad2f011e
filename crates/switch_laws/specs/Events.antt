-- What may happen to a port on a switch: an event of the port alone, or its end at the switch took a frame. The switch put that frame into
-- the out queues of one set of ports, and not into those of another, which were full. A set of ports is a number.
use Rattle.std.specs.Prelude.{◌≡◌, ℕ, List, ⊤}
use Rattle.ldc_queue.specs.declared.end.End.TheVariants.{B}
use Rattle.port_laws.specs.NetEndStep.{Frame, Idle}
use Rattle.port_laws.specs.NetEvent.{Steps}
use Rattle.port_laws.specs.PortState.{OnLane, PortEvent, PortState, PortStep}

pub data SwitchEvent : Type 0 where
  OnPort : PortEvent → SwitchEvent
  Switched : (frame : List ℕ) (out full : ℕ) → SwitchEvent

-- what it is for the port itself
abbrev pub at_port : SwitchEvent → PortEvent
at_port (OnPort event) = event
at_port (Switched frame out full) = OnLane (Steps B (Frame frame))

-- a frame that the switch's end takes is always switched
abbrev pub IsAlone : PortEvent → Type 0
IsAlone (OnLane (Steps B (Frame frame))) = ⊥
IsAlone _ = ⊤

-- Where the switch's end is idle nothing changed: a frame that moved to it from the out queue would have been published.
abbrev pub IdleStays : PortEvent → PortState → PortState → Type 0
IdleStays (OnLane (Steps B Idle)) s t = t ≡ s
IdleStays _ s t = ⊤

-- THE STEP of the port
abbrev pub SwitchStep : PortState → SwitchEvent → PortState → Type 0
SwitchStep s (OnPort event) t = IsAlone event × PortStep s event t × IdleStays event s t
SwitchStep s (Switched frame out full) t = PortStep s (OnLane (Steps B (Frame frame))) t
