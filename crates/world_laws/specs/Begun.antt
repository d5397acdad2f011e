-- A front of a settle's part, where memory is wanted: each step that was made is in it, and no other.
use Rattle.std.specs.Prelude.{ℕ, Bool, List}
use Rattle.lane_kinds.specs.Fronts as front
use Rattle.lane_kinds.specs.LaneFronts as lanes
use Rattle.lane_models.specs.LaneState.{LaneState}
use Rattle.world_laws.specs.DiskKind.{disk_kind}
use Rattle.world_laws.specs.Settle.{SettleEntry, disk_entries, disks}

-- A FRONT OF A ROUND, and one of the ticks, from the lane with this number on
abbrev pub RoundFront : List LaneState → List SettleEntry → List LaneState → Type 0
RoundFront = lanes.RoundFront disk_kind disk_entries

abbrev pub NoMore : List LaneState → List SettleEntry → List LaneState → Type 0
NoMore = lanes.NoMore

abbrev pub TickFront : ℕ → List LaneState → List Bool → List SettleEntry → List LaneState → Type 0
TickFront = lanes.TickFront disk_kind disk_entries

-- A FRONT OF A SETTLE of disks
abbrev pub fronts : front.Fronts (List LaneState) (List Bool) SettleEntry
fronts = lanes.fronts_of disk_kind disk_entries

abbrev pub SettleFront : List LaneState → List SettleEntry → List LaneState → Type 0
SettleFront = front.SettleFront disks fronts
