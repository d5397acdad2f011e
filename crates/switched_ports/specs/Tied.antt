-- What always holds of the ports of a switch.
use Rattle.std.specs.Prelude.{◌≡◌, ℕ, ◌≤◌, List, length}
use Rattle.lane_kinds.specs.Lanes.{EachOf}
use Rattle.net_lane.specs.NetLaneState.{NetLaneState}
use Rattle.port_laws.specs.PortState.{PortState}
use Rattle.switch_laws.specs.Forwards.{views}
use Rattle.switch_laws.specs.Reached.{IsReached}
use Rattle.switched_ports.specs.Shapes.{AddressesDiffer}
use Rattle.switched_ports.specs.States.{lanes_in, shapes_in}
use Rattle.vnet_switch.specs.PortView.{PortView}

-- the lanes, and what the switch knows of each port, are those of the states: its address where the session of the
-- switch's end is open, the groups that this end was told, room for a ring of frames, and the queue
pub record Tied (lanes : List NetLaneState) (known : List (PortView (List ℕ))) (ports : List PortState) : Type 0 where
  pub lanes_are : lanes ≡ lanes_in ports
  pub known_are : known ≡ views ports
  pub few : length ports ≤ 8
  pub reached : EachOf IsReached ports
  pub differ : AddressesDiffer (shapes_in ports)
