-- What an entry is for all ports of a switch, and what an event of one port leaves of each.
use Rattle.std.specs.Prelude.{◌≡◌, ◌≢◌, ◌⊎◌, ℕ, List, [], ◌∷◌, ◌++◌, length, Some, slice_get, IsBitSet}
use Rattle.lane_kinds.specs.Lanes.{StepOf}
use Rattle.port_laws.specs.PortState.{PortState}
use Rattle.switch_laws.specs.Events.{OnPort, SwitchEvent, SwitchStep, Switched}
use Rattle.switch_laws.specs.Ports.{OfPort, Settled, SwitchEntry, Unsettled, ports}

-- ONE ENTRY: an event of a port, by which a frame goes as the states of all ports before it let it. What a settle says
-- at its end changes nothing.
abbrev pub SwitchMoves : List PortState → SwitchEntry → List PortState → Type 0
SwitchMoves w (OfPort k event) v = StepOf ports k w event v
SwitchMoves w (Unsettled k) v = v ≡ w
SwitchMoves w Settled v = v ≡ w

-- ANOTHER PORT gets the frame last in its out queue where it is in the set, and is as it was else
abbrev pub OnlyGets : ℕ → SwitchEvent → PortState → PortState → Type 0
OnlyGets j (Switched frame out full) s t = (IsBitSet out j × (t ≡ record s { queue = s.queue ++ frame ∷ [] })) ⊎ ((¬ (IsBitSet out j)) × (t ≡ s))
OnlyGets j (OnPort event) s t = t ≡ s

pub record LeavesOthers (k : ℕ) (lanes : List PortState) (event : SwitchEvent) (behind : List PortState) : Type 0 where
  pub many : length behind ≡ length lanes
  pub own : (s t : PortState) → slice_get lanes k ≡ Some s → slice_get behind k ≡ Some t → SwitchStep s event t
  pub others : (j : ℕ) (s t : PortState) → j ≢ k → slice_get lanes j ≡ Some s → slice_get behind j ≡ Some t → OnlyGets j event s t
