-- Lanes by their kinds. `if_disk` and `if_port` alone tell whose a lane is: what speaks of lanes of one kind goes by
-- `disk_of` or `port_of`.
use Rattle.std.specs.Prelude.{ℕ, ◌==◌, Bool, if◌then◌else◌, Option, Some, None}
use Rattle.domain_script.specs.Declarations.{declared_as}
use Rattle.domain_script.specs.declared.event.Lane.{Lane}
use Rattle.domain_script.specs.declared.fields.LaneKind.{LaneKind}
use Rattle.domain_script.specs.declared.fields.LaneKind.TheVariants as lanes

abbrev pub lane_at : LaneKind → ℕ → Lane
lane_at kind k = record { kind = kind; number = k }

abbrev pub disk_lane : ℕ → Lane
disk_lane k = lane_at lanes.Disk k

abbrev pub port_lane : ℕ → Lane
port_lane k = lane_at lanes.Port k

-- the number of a lane that is a disk's, and of one that is a port's
abbrev pub if_disk : LaneKind → ℕ → Option ℕ
if_disk lanes.Disk k = Some k
if_disk _ k = None

abbrev pub disk_of : Lane → Option ℕ
disk_of lane = if_disk lane.kind lane.number

abbrev pub if_port : LaneKind → ℕ → Option ℕ
if_port lanes.Port k = Some k
if_port _ k = None

abbrev pub port_of : Lane → Option ℕ
port_of lane = if_port lane.kind lane.number

-- the number of a lane of this kind
abbrev pub is_same_kind : LaneKind → LaneKind → Bool
is_same_kind kind other = (declared_as kind).place == (declared_as other).place

abbrev pub number_if : LaneKind → Lane → Option ℕ
number_if kind lane = if is_same_kind kind lane.kind then Some lane.number else None
