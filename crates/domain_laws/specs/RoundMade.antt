-- What was made so far of a round over disks and ports: by the disks in order, and behind them by the ports. And a front of one.
use Rattle.std.specs.Prelude.{ℕ, Bool, List, map}
use Rattle.lane_models.specs.DiskEvent.{DiskEvent}
use Rattle.lane_models.specs.LaneState.{LaneState}
use Rattle.lane_kinds.specs.Both.{Two}
use Rattle.lane_kinds.specs.LaneFronts.{RoundFront}
use Rattle.lane_kinds.specs.Lanes.{all_calm}
use Rattle.lane_kinds.specs.LanesMade as made
use Rattle.lane_kinds.specs.LanesMade.{Marks, both_true, first_marks}
use Rattle.lane_kinds.specs.RoundsMade.{RoundSaid, both_said}
use Rattle.lane_kinds.specs.WorldMade.{InWorld, KindMade, LaneMade, PartMade}
use Rattle.lane_laws.specs.CalmEnds.{IsStep}
use Rattle.ldc_queue.specs.declared.end.End.{End}
use Rattle.lane_models.specs.PortState.{PortState}
use Rattle.switch_laws.specs.Events.{SwitchEvent}
use Rattle.switch_laws.specs.Ports.{IsStepOf, ports}
use Rattle.world_laws.specs.DiskKind.{disk_kind}
use Rattle.world_laws.specs.Rounds.{LaneRound}
use Rattle.world_laws.specs.Settle.{SettleEntry, disk_entries}
use Rattle.world_laws.specs.World.{WorldState}
use Rattle.domain_laws.specs.Domain.{DomainState, DomainStep, Lanes, lanes, lanes_in, port_entries}
use Rattle.domain_laws.specs.Lines.{fronts}

-- EACH KIND in a world, and what is beside it
abbrev pub disks_in_world : InWorld DomainState End SettleEntry
disks_in_world = record {
  Lane = LaneState;
  Event = DiskEvent;
  Beside = List PortState;
  kind = disk_kind;
  entries = disk_entries;
  lanes = λ w. w.first.lanes;
  beside = λ w. w.second;
  Step = DomainStep;
  IsStep = IsStep;
}

abbrev pub ports_in_world : InWorld DomainState End SettleEntry
ports_in_world = record {
  Lane = PortState;
  Event = SwitchEvent;
  Beside = WorldState;
  kind = ports;
  entries = port_entries;
  lanes = λ w. w.second;
  beside = λ w. w.first;
  Step = DomainStep;
  IsStep = IsStepOf;
}

-- A PART that the disks made, whereby the ports stayed; one that the ports made, whereby the disks and the image stayed; and one of both
abbrev pub OfDisks : (List LaneState → List SettleEntry → List LaneState → Type 0) → DomainState → List SettleEntry → DomainState → Type 0
OfDisks = KindMade disks_in_world

abbrev pub OfPorts : (List PortState → List SettleEntry → List PortState → Type 0) → DomainState → List SettleEntry → DomainState → Type 0
OfPorts = KindMade ports_in_world

abbrev pub OfBoth : (Lanes → List SettleEntry → Lanes → Type 0) → DomainState → List SettleEntry → DomainState → Type 0
OfBoth = PartMade lanes_in DomainStep

-- THIS END of this disk made its step, which was calm or not; and of this port
abbrev pub DiskMade : ℕ → End → DomainState → List SettleEntry → Bool → DomainState → Type 0
DiskMade k side w entries calm v = LaneMade disks_in_world side k w entries calm v

abbrev pub PortMade : ℕ → End → DomainState → List SettleEntry → Bool → DomainState → Type 0
PortMade k side w entries calm v = LaneMade ports_in_world side k w entries calm v

-- THE FIRST DISKS, so many, made their two steps, and the others none; the marks say which of them were quiet. And the first ports.
abbrev pub DisksUpTo : ℕ → DomainState → List SettleEntry → List Bool → DomainState → Type 0
DisksUpTo k start entries quiet now = OfDisks (made.RoundUpTo disk_kind disk_entries k quiet) start entries now

abbrev pub PortsUpTo : ℕ → DomainState → List SettleEntry → List Bool → DomainState → Type 0
PortsUpTo k start entries quiet now = OfPorts (made.RoundUpTo ports port_entries k quiet) start entries now

-- memory was wanted among them
abbrev pub DisksBegun : DomainState → List SettleEntry → DomainState → Type 0
DisksBegun = OfDisks (RoundFront disk_kind disk_entries)

abbrev pub PortsBegun : DomainState → List SettleEntry → DomainState → Type 0
PortsBegun = OfPorts (RoundFront ports port_entries)

-- ALL OF BOTH made theirs, and these marks say which were quiet; or memory was wanted in the round
abbrev pub said : Two (List LaneRound) (List (List SwitchEvent)) → Marks
said = both_said (map (all_calm disk_kind)) (map (all_calm ports))

abbrev pub RoundOf : Marks → Lanes → List SettleEntry → Lanes → Type 0
RoundOf quiet w part v = RoundSaid lanes said (first_marks w quiet) w part v

abbrev pub RoundMade : DomainState → List SettleEntry → Marks → DomainState → Type 0
RoundMade start entries quiet now = OfBoth (RoundOf quiet) start entries now

abbrev pub RoundBegun : DomainState → List SettleEntry → DomainState → Type 0
RoundBegun = OfBoth fronts.OfRound

-- whether all lanes were quiet, by the marks of as many
abbrev pub all_quiet : DomainState → Marks → Bool
all_quiet w quiet = both_true (first_marks (lanes_in w) quiet)
