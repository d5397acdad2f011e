-- What remains to be done for a port on a switch: on the port itself, and for each frame that may still cross. Such a frame makes eight
-- remain on each of seven other ports.
use Rattle.std.specs.Prelude.{ℕ, ◌+◌, ◌*◌}
use Rattle.port_laws.specs.Crossing.{crossing}
use Rattle.port_laws.specs.PortState.{PortState}
use Rattle.port_laws.specs.Remaining.{remaining}
use Rattle.switch_laws.specs.Events.{OnPort, SwitchEvent, Switched}

abbrev pub port_remaining : PortState → ℕ
port_remaining s = remaining s + 56 * crossing s

-- a frame that is switched raises what remains on another port by so much at most
abbrev pub port_raises : SwitchEvent → ℕ
port_raises (Switched frame out full) = 8
port_raises (OnPort event) = 0
