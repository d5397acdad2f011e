-- What a settle that leaves lanes over says of its last round, and which lanes it names.
use Rattle.std.specs.Prelude.{◌≡◌, ◌⊎◌, ◌↔◌, ℕ, Bool, false, true, if◌then◌else◌, List, [], ◌∷◌, ◌++◌, length, map, Some, slice_get}
use Rattle.runs.specs.Run.{Run}
use Rattle.disk_law.specs.ListState.{ImageState}
use Rattle.domain_script.specs.declared.event.DiskDecl.{DiskDecl}
use Rattle.domain_script.specs.declared.event.Event.{Event}
use Rattle.domain_script.specs.declared.event.Event.TheVariants.{Settle}
use Rattle.ldom_entries.specs.declared.entry.Entry.{Entry}
use Rattle.lane_kinds.specs.Lanes.{EachOf}
use Rattle.lane_kinds.specs.Settles.{RunsOut, entries_of_rounds}
use Rattle.world_parts.specs.lane_models.LaneState.{Shape}
use Rattle.world_parts.specs.lane_models.FrameLaws.{IsFinished}
use Rattle.world_parts.specs.lane_models.NetLaneState.{NetShape}
use Rattle.world_parts.specs.switch_laws.Ports as port
use Rattle.world_parts.specs.world_laws.DiskKind as disk
use Rattle.world_parts.specs.world_laws.Moves.{MovedIn, is_tick}
use Rattle.world_parts.specs.world_laws.Settle.{OfLane, OfPort, SettleEntry, Unsettled, UnsettledPort}
use Rattle.world_parts.specs.domain_laws.Domain.{DomainState, lanes, lanes_in}
use Rattle.world_parts.specs.domain_laws.Lines.{AreSteps, turns_over}
use Rattle.script_laws.specs.PortSettles.{NamesPort, PortMovedIn, is_port_tick}
use Rattle.script_laws.specs.Settled.{EndsUnsettled, WaitsBy}
use Rattle.script_laws.specs.Told.{log_at, port_log_at, told, told_by}
use Rattle.world_parts.specs.Declared.{shapes_of, world_of}
use Rattle.world_parts.specs.Lines.{EventStep}
use Rattle.world_parts.specs.WorldEvents.{told_of}

-- A ROUND over so many disks and ports: a step of each end of each lane, in their order. Those that are idle, or of a
-- stopped server, leave no entry.
abbrev pub leaves_none : SettleEntry → Bool
leaves_none (OfLane k event) = disk.is_silent event
leaves_none (OfPort k event) = port.is_silent event
leaves_none _ = false

abbrev pub kept_steps : List SettleEntry → List SettleEntry
kept_steps [] = []
kept_steps (entry ∷ part) = (if leaves_none entry then [] else entry ∷ []) ++ kept_steps part

pub record IsRound (n m : ℕ) (round : List SettleEntry) : Type 0 where
  pub steps : List SettleEntry
  pub are : AreSteps (turns_over n m) steps
  pub is : round ≡ kept_steps steps

-- ticks behind it; and the names of lanes that are left over
abbrev pub IsTick : SettleEntry → Type 0
IsTick (OfLane k event) = is_tick event ≡ true
IsTick (OfPort k event) = is_port_tick event ≡ true
IsTick _ = ⊥

abbrev pub NamesLane : SettleEntry → Type 0
NamesLane (Unsettled k) = Unit {0}
NamesLane (UnsettledPort k) = Unit {0}
NamesLane _ = ⊥

pub record NamesDisk (x : ℕ) (part : List SettleEntry) : Type 0 where
  pub front : List SettleEntry
  pub later : List SettleEntry
  pub is : part ≡ front ++ Unsettled x ∷ later

-- EXACTLY THOSE LANES ARE NAMED that moved in this round, or aren't finished; of a disk only where its server runs. The
-- part is what earlier rounds left, what this one left, ticks, and the names.
pub record NamesExactly (disks : List DiskDecl) (nets : List NetShape)
    (before part earlier round : List SettleEntry) : Type 0 where
  pub ticks : List SettleEntry
  pub names : List SettleEntry
  pub is : part ≡ earlier ++ (round ++ (ticks ++ names))
  pub is_round : IsRound (length disks) (length nets) round
  pub are_ticks : EachOf IsTick ticks
  pub are_names : EachOf NamesLane names
  pub of_disks : (x : ℕ) (shape : Shape) → slice_get (shapes_of 0 disks) x ≡ Some shape
      → (NamesDisk x part) ↔ (MovedIn x round ⊎ WaitsBy (log_at shape x (before ++ part)))
  pub of_ports : (k : ℕ) (shape : NetShape) → slice_get nets k ≡ Some shape
      → (NamesPort k part) ↔ (PortMovedIn k round ⊎ (IsFinished (port_log_at shape k (before ++ part)) → ⊥))

-- A RUN OF A SETTLE that ran out of rounds: from the world to which these lines led, to one behind it
pub record RanOut (disks : List DiskDecl) (nets : List NetShape) (image : ImageState)
    (before : List (Event × List Entry)) (part : List Entry) : Type 0 where
  pub at : DomainState
  pub run : Run EventStep (world_of disks nets image) before at
  pub next : DomainState
  pub step : EventStep at (Settle, part) next
  pub out : RunsOut lanes (lanes_in at) step.entries (lanes_in next)

-- Each whole settle that leaves a lane over has such a run. And by each run that it has, its names are exact for the
-- last round of that run.
abbrev pub EachNamesExactly : List DiskDecl → List NetShape → ImageState → List (Event × List Entry) → Type 0
EachNamesExactly disks nets image lines =
    (before : List (Event × List Entry)) (part : List Entry) (behind : List (Event × List Entry))
    → lines ≡ before ++ (Settle, part) ∷ behind → EndsUnsettled (told_by (Settle, part))
    → RanOut disks nets image before part
    × ((ran : RanOut disks nets image before part)
    → NamesExactly disks nets (told before) (told_by (Settle, part)) (map told_of (entries_of_rounds ran.out.rounds))
    (lanes.leaves ran.out.last.steps))
