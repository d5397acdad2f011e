-- A WORLD OF DISKS AND PORTS: a world of disks over one image, and beside it the ports of one switch. What each entry of their one journal
-- does to it, and a settle over all of them.
use Rattle.std.specs.Prelude.{◌≡◌, ℕ, Bool, List, map, ⊤}
use Rattle.disk_law.specs.ListState.{ImageState}
use Rattle.lane_models.specs.LaneState.{LaneState, Shape}
use Rattle.lane_kinds.specs.Both.{BothStep, Two, both}
use Rattle.lane_kinds.specs.Lanes.{Entries, EntryOf, lanes_of}
use Rattle.lane_kinds.specs.Rounds.{Rounds}
use Rattle.lane_kinds.specs.Settles.{SettlePart}
use Rattle.lane_models.specs.NetLaneState.{NetShape}
use Rattle.lane_models.specs.PortState.{PortState, Receives, fresh_port}
use Rattle.runs.specs.Run.{Run}
use Rattle.switch_laws.specs.Events.{OnPort, SwitchEvent}
use Rattle.switch_laws.specs.Ports.{ports}
use Rattle.world_laws.specs.Rounds.{LaneRound}
use Rattle.world_laws.specs.Settle.{OfPort, SettleEntry, Settled, UnsettledPort, disks}
use Rattle.world_laws.specs.World.{WorldState, WorldStep, fresh_world}

-- THE STATE: the world of the disks, and the ports by their numbers
abbrev pub DomainState : Type 0
DomainState = Two WorldState (List PortState)

abbrev pub fresh_domain : List Shape → ImageState → List NetShape → DomainState
fresh_domain shapes image nets = record { first = fresh_world shapes image; second = map fresh_port nets }

-- AN ENTRY of a port moves it, and the others by what it gives them; what it gets of others is no entry of its own. It leaves the disks and
-- their image, and any other entry the ports.
abbrev pub IsOwnEvent : SwitchEvent → Type 0
IsOwnEvent (OnPort (Receives frame)) = ⊥
IsOwnEvent _ = ⊤

pub record PortMoves (lanes : List PortState) (k : ℕ) (event : SwitchEvent) (behind : List PortState) : Type 0 where
  pub own : IsOwnEvent event
  pub entry : EntryOf ports k lanes event behind

abbrev pub PortsStep : List PortState → SettleEntry → List PortState → Type 0
PortsStep lanes (OfPort k event) behind = PortMoves lanes k event behind
PortsStep lanes _ behind = behind ≡ lanes

abbrev pub DomainStep : DomainState → SettleEntry → DomainState → Type 0
DomainStep = BothStep WorldStep PortsStep

-- ALL LANES, as a settle sees them: in each round the disks, and behind them the ports
abbrev pub port_entries : Entries SwitchEvent SettleEntry
port_entries = record { of_lane = OfPort; left_over = UnsettledPort; settled = Settled }

abbrev pub switch : Rounds (List PortState) (List Bool) (List (List SwitchEvent)) SettleEntry
switch = lanes_of ports port_entries

abbrev pub Lanes : Type 0
Lanes = Two (List LaneState) (List PortState)

abbrev pub lanes : Rounds Lanes (Two (List Bool) (List Bool)) (Two (List LaneRound) (List (List SwitchEvent))) SettleEntry
lanes = both disks switch

abbrev pub lanes_in : DomainState → Lanes
lanes_in w = record { first = w.first.lanes; second = w.second }

-- A SETTLE gives its part, and that runs the world
pub record DomainSettles (w : DomainState) (part : List SettleEntry) (v : DomainState) : Type 0 where
  pub part_of : SettlePart lanes (lanes_in w) part (lanes_in v)
  pub run : Run DomainStep w part v
