-- The ticks of a settle: after a round in which all lanes are quiet, each lane that isn't finished, whose server runs, and that had no
-- tick in this settle gets one.
use Rattle.std.specs.Prelude.{Bool, List}
use Rattle.lane_kinds.specs.Lanes as lanes
use Rattle.lane_models.specs.LaneState.{LaneState}
use Rattle.world_laws.specs.DiskKind.{disk_kind}

-- whether it gets a tick, where this mark says whether it had one; the ticks of all; and which lanes had one after them
abbrev pub gets_tick : LaneState → Bool → Bool
gets_tick s had = lanes.gets_tick disk_kind s had

abbrev pub some_get_ticks : List LaneState → List Bool → Bool
some_get_ticks = lanes.some_tick disk_kind

abbrev pub TicksWhere : Bool → LaneState → LaneState → Type 0
TicksWhere = lanes.TicksIf disk_kind

abbrev pub TickLanes : List LaneState → List Bool → List LaneState → Type 0
TickLanes = lanes.TickAll disk_kind

abbrev pub marked : List LaneState → List Bool → List Bool
marked = lanes.marked disk_kind

abbrev pub no_marks : List LaneState → List Bool
no_marks = lanes.unmarked
