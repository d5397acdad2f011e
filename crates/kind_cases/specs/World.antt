-- A world of two switches beside each other: lanes of two kinds over one journal.
use Rattle.std.specs.Prelude.{ℕ, Bool, ◌==◌, List, []}
use Rattle.lane_kinds.specs.Both.{Two, both, both_fronts}
use Rattle.lane_kinds.specs.Fronts.{Fronts}
use Rattle.lane_kinds.specs.LaneFronts.{fronts_of}
use Rattle.lane_kinds.specs.Lanes.{Entries, lanes_of, own_or}
use Rattle.lane_kinds.specs.Rounds.{Rounds}
use Rattle.kind_cases.specs.Ports.{Port, PortEvent, port_gets, ports}

pub data WorldEntry : Type 0 where
  OfPort : (lane : ℕ) (event : PortEvent) → WorldEntry
  OfTwin : (lane : ℕ) (event : PortEvent) → WorldEntry
  PortLeft : (lane : ℕ) → WorldEntry
  TwinLeft : (lane : ℕ) → WorldEntry
  Settled : WorldEntry

abbrev pub of_ports : Entries PortEvent WorldEntry
of_ports = record { of_lane = OfPort; left_over = PortLeft; settled = Settled }

abbrev pub of_twins : Entries PortEvent WorldEntry
of_twins = record { of_lane = OfTwin; left_over = TwinLeft; settled = Settled }

abbrev pub two_switches : Rounds (Two (List Port) (List Port)) (Two (List Bool) (List Bool)) (Two (List (List PortEvent)) (List (List PortEvent))) WorldEntry
two_switches = both (lanes_of ports of_ports) (lanes_of ports of_twins)

-- fronts of its rounds and ticks, where memory is wanted
abbrev pub two_fronts : Fronts (Two (List Port) (List Port)) (Two (List Bool) (List Bool)) WorldEntry
two_fronts = both_fronts (lanes_of ports of_ports) (fronts_of ports of_ports) (fronts_of ports of_twins)

-- what an entry says of a port of the one switch, and of one of the other: its own event, or what another's gave it
abbrev pub said_port : ℕ → WorldEntry → List PortEvent
said_port j (OfPort k event) = own_or (j == k) event (port_gets j event)
said_port j _ = []

abbrev pub said_twin : ℕ → WorldEntry → List PortEvent
said_twin j (OfTwin k event) = own_or (j == k) event (port_gets j event)
said_twin j _ = []
