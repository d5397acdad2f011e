-- The frames of a port, by the journal of a world: what its guest was given (`Queued`), what its end at the switch took and was switched to
-- others (`Switched` of it), what the switch put into its out queue (`Switched` whose set `out` has it), and what its guest took (`Frame`).
use Rattle.std.specs.Prelude.{ℕ, ◌==◌, if◌then◌else◌, List, [], ◌∷◌, flat_map, map}
use Rattle.std.specs.Int.{bit_at}
use Rattle.lane_kinds.specs.Settles.{Settles}
use Rattle.ldc_queue.specs.declared.end.End.TheVariants.{A}
use Rattle.lane_models.specs.NetEndStep.{Frame, Queued}
use Rattle.lane_models.specs.NetEvent.{Gives, Steps}
use Rattle.lane_models.specs.PortState.{OnLane, PortEvent}
use Rattle.runs.specs.Run.{Run}
use Rattle.switch_laws.specs.Events.{OnPort, SwitchEvent, Switched, at_port}
use Rattle.world_laws.specs.Settle.{OfPort, SettleEntry}
use Rattle.domain_laws.specs.Along.{port_happened}
use Rattle.domain_laws.specs.Domain.{DomainState, DomainStep, lanes, lanes_in}

-- what happened to the port by itself
abbrev pub port_events : ℕ → List SettleEntry → List PortEvent
port_events k entries = map at_port (port_happened k entries)

-- OF AN EVENT of the port
abbrev pub queued_in : SwitchEvent → List (List ℕ)
queued_in (OnPort (OnLane (Gives A (Queued id frame)))) = frame ∷ []
queued_in _ = []

abbrev pub switched_in : SwitchEvent → List (List ℕ)
switched_in (Switched frame out full) = frame ∷ []
switched_in (OnPort event) = []

abbrev pub arrived_in : SwitchEvent → List (List ℕ)
arrived_in (OnPort (OnLane (Steps A (Frame frame)))) = frame ∷ []
arrived_in _ = []

-- and of one of any port for this one
abbrev pub put_in : ℕ → SwitchEvent → List (List ℕ)
put_in k (Switched frame out full) = if bit_at out k == 1 then frame ∷ [] else []
put_in k (OnPort event) = []

-- OF AN ENTRY
abbrev pub of_port : (SwitchEvent → List (List ℕ)) → ℕ → SettleEntry → List (List ℕ)
of_port frames k (OfPort j event) = if k == j then frames event else []
of_port frames k _ = []

abbrev pub put_by : ℕ → SettleEntry → List (List ℕ)
put_by k (OfPort j event) = put_in k event
put_by k _ = []

-- OF A JOURNAL
abbrev pub frames_queued : ℕ → List SettleEntry → List (List ℕ)
frames_queued k entries = flat_map (of_port queued_in k) entries

abbrev pub frames_switched : ℕ → List SettleEntry → List (List ℕ)
frames_switched k entries = flat_map (of_port switched_in k) entries

abbrev pub frames_put : ℕ → List SettleEntry → List (List ℕ)
frames_put k entries = flat_map (put_by k) entries

abbrev pub frames_arrived : ℕ → List SettleEntry → List (List ℕ)
frames_arrived k entries = flat_map (of_port arrived_in k) entries

-- THE JOURNAL of a world that ends settled: what came before a settle, and the settle's part
pub record EndsSettled (start w : DomainState) (before part : List SettleEntry) (v : DomainState) : Type 0 where
  pub came : Run DomainStep start before w
  pub part_of : Settles lanes (lanes_in w) part (lanes_in v)
  pub run : Run DomainStep w part v
