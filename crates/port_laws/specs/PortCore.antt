-- A port with its out queue as two ends on a channel: what the switch puts into the queue is none of the channel's.
use Rattle.std.specs.Prelude.{List, map}
use Rattle.lane_models.specs.LaneCore.{Beside, CoreEvent, LaneCore}
use Rattle.lane_models.specs.PortState.{OnLane, PortEvent, PortState, Receives}
use Rattle.port_laws.specs.NetCore.{core_event, lane_core}

abbrev pub port_core : PortState → LaneCore
port_core s = lane_core s.lane

abbrev pub port_event : PortEvent → CoreEvent
port_event (OnLane event) = core_event event
port_event (Receives frame) = Beside

abbrev pub port_events : List PortEvent → List CoreEvent
port_events events = map port_event events
