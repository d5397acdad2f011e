-- Each port of a switch is run by what the part of a settle says of it.
use Rattle.std.proofs.Common.{List, refl}
use Rattle.lane_kinds.proofs.Leading.{part_leads}
use Rattle.lane_kinds.proofs.Moving.{lanes_end, lanes_lead}
use Rattle.lane_kinds.specs.Lanes.{AllMove, Reads}
use Rattle.lane_kinds.specs.Settles.{SettlePart}
use Rattle.port_laws.specs.PortState.{PortState}
use Rattle.switch_laws.specs.Events.{SwitchStep}
use Rattle.switch_laws.specs.Ports.{SwitchEntry, of_ports, ports, said_port, switch}
use Rattle.switch_laws.proofs.PortTurns.{silence}

pub reads : Reads ports of_ports said_port
reads = record { of_lane = λ j k event. refl; of_left = λ j k. refl; of_answer = λ j. refl }

pub ports_move : (start : List PortState) (part : List SwitchEntry) (behind : List PortState) → SettlePart switch start part behind
    → AllMove SwitchStep said_port 0 start part behind
ports_move start part behind settle =
    part_leads switch (AllMove SwitchStep said_port 0) (lanes_lead ports of_ports said_port reads silence) (lanes_end ports of_ports said_port reads silence) start part behind settle
