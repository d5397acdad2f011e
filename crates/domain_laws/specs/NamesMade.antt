-- Which disks, and then which ports, are named where the rounds ran out, by the marks of the last round.
use Rattle.std.specs.Prelude.{◌≡◌, ℕ, Bool, List, ◌++◌}
use Rattle.lane_models.specs.LaneState.{LaneState}
use Rattle.lane_kinds.specs.LanesMade as made
use Rattle.lane_kinds.specs.LanesMade.{Marks, first_marks}
use Rattle.lane_kinds.specs.WorldMade.{NamesUpTo}
use Rattle.lane_models.specs.PortState.{PortState}
use Rattle.switch_laws.specs.Ports.{ports}
use Rattle.world_laws.specs.DiskKind.{disk_kind}
use Rattle.world_laws.specs.Settle.{SettleEntry, disk_entries}
use Rattle.domain_laws.specs.Domain.{DomainState, Lanes, lanes_in, port_entries}
use Rattle.domain_laws.specs.RoundMade.{disks_in_world, ports_in_world}

-- a disk is named where it wasn't quiet, or isn't finished though its server runs; a port where it wasn't quiet, or isn't finished
abbrev pub disk_name : ℕ → Bool → LaneState → List SettleEntry
disk_name k quiet lane = made.name_of disk_kind disk_entries k quiet lane

abbrev pub port_name : ℕ → Bool → PortState → List SettleEntry
port_name k quiet lane = made.name_of ports port_entries k quiet lane

-- of the first disks, so many, and of the first ports
abbrev pub DisksNamed : ℕ → DomainState → List Bool → List SettleEntry → Type 0
DisksNamed k w quiet entries = NamesUpTo disks_in_world k w quiet entries

abbrev pub PortsNamed : ℕ → DomainState → List Bool → List SettleEntry → Type 0
PortsNamed k w quiet entries = NamesUpTo ports_in_world k w quiet entries

-- OF ALL; and of some, where memory was wanted among them
abbrev pub names_of : Marks → Lanes → List SettleEntry
names_of quiet w = made.names disk_kind disk_entries 0 quiet.first w.first ++ made.names ports port_entries 0 quiet.second w.second

abbrev pub all_names : DomainState → Marks → List SettleEntry
all_names w quiet = names_of (first_marks (lanes_in w) quiet) (lanes_in w)

pub record AllNamed (w : DomainState) (quiet : Marks) (entries : List SettleEntry) : Type 0 where
  pub are : entries ≡ all_names w quiet

pub record NamesBegun (w : DomainState) (quiet : Marks) (entries : List SettleEntry) : Type 0 where
  pub unnamed : List SettleEntry
  pub are : entries ++ unnamed ≡ all_names w quiet
