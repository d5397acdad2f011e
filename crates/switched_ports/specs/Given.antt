-- How many frames the ends of all ports were given at most: each end numbers its own from 0 on.
use Rattle.std.specs.Prelude.{ℕ, ◌+◌, ◌<◌, List, length}
use Rattle.lane_kinds.specs.Lanes.{EachOf}
use Rattle.port_laws.specs.PortState.{PortState}

-- the guest was given fewer than this, and so was the switch's end with all that waits for it
pub record IsBelow (n : ℕ) (port : PortState) : Type 0 where
  pub guest : port.lane.guest.next_id < n
  pub hub : port.lane.hub.next_id + length port.queue < n

abbrev pub GivenBelow : ℕ → List PortState → Type 0
GivenBelow n ports = EachOf (IsBelow n) ports

-- what happened gives no end more; or one frame at most
abbrev pub GivesNoMore : List PortState → List PortState → Type 0
GivesNoMore old new = (n : ℕ) → GivenBelow n old → GivenBelow n new

abbrev pub GivesOneMore : List PortState → List PortState → Type 0
GivesOneMore old new = (n : ℕ) → GivenBelow n old → GivenBelow (n + 1) new
