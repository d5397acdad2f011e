-- Steps of ends, turn by turn, and the part of the journal that they give.
use Rattle.std.specs.Prelude.{◌≡◌, ℕ, List, ◌∷◌, ◌++◌, length}
use Rattle.runs.specs.Run.{Run}
use Rattle.ldom_entries.specs.declared.entry.Entry.{Entry}
use Rattle.recorded_lanes.specs.world_parts.world_laws.Settle.{SettleEntry}
use Rattle.recorded_lanes.specs.world_parts.domain_laws.Domain.{DomainState, DomainStep}
use Rattle.recorded_lanes.specs.world_parts.domain_laws.Lines.{AreSteps, EndTurn, Line, both_ends, lanes_from}
use Rattle.domain_script.specs.declared.fields.LaneKind.{LaneKind}
use Rattle.recorded_lanes.specs.world_parts.Lines.{number_of_kind}
use Rattle.recorded_lanes.specs.world_parts.WorldKinds.{of_kind}
use Rattle.recorded_lanes.specs.world_parts.Parts.{Adds}

-- THESE TURNS were made, each with its entry, whatever line they are in
pub record TurnsMade (turns : List EndTurn) (w : DomainState) (old new : List Entry) (v : DomainState) : Type 0 where
  pub entries : List SettleEntry
  pub adds : (line : Line) → Adds line old new entries
  pub steps : AreSteps turns entries
  pub run : Run DomainStep w entries v

-- and so far a front of them: memory was wanted for the next
pub record TurnsBegun (turns : List EndTurn) (w : DomainState) (old new : List Entry) (v : DomainState) : Type 0 where
  pub made : List EndTurn
  pub next : EndTurn
  pub left : List EndTurn
  pub turns_are : turns ≡ made ++ next ∷ left
  pub turned : TurnsMade made w old new v

-- the turns of both ends of so many lanes of a kind, from this number on; and of all of them
abbrev pub lane_turns : LaneKind → ℕ → ℕ → List EndTurn
lane_turns kind k many = both_ends (lanes_from (of_kind kind) k many)

abbrev pub kind_turns : LaneKind → DomainState → List EndTurn
kind_turns kind w = lane_turns kind 0 (number_of_kind kind w)

-- as many disks and as many ports
pub record SameNumbers (w v : DomainState) : Type 0 where
  pub disks : length v.first.lanes ≡ length w.first.lanes
  pub ports : length v.second ≡ length w.second
