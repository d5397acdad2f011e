-- A round over the lanes of disks: each lane in order makes a step of its client and then one of its server.
use Rattle.std.specs.Prelude.{Bool, List}
use Rattle.lane_kinds.specs.Lanes as lanes
use Rattle.lane_models.specs.DiskEvent.{DiskEvent}
use Rattle.lane_models.specs.LaneState.{LaneState}
use Rattle.world_laws.specs.DiskKind.{disk_kind}

-- what came of the two steps of a lane in a round
abbrev pub LaneRound : Type 0
LaneRound = List DiskEvent

abbrev pub MakesRound : LaneState → LaneRound → LaneState → Type 0
MakesRound = lanes.OwnTurn disk_kind

-- A ROUND: no lane's steps touch another
abbrev pub MakeRound : List LaneState → List LaneRound → List LaneState → Type 0
MakeRound = lanes.MakeRound disk_kind

-- A LANE IS QUIET in a round where each of its two steps is calm
abbrev pub is_quiet : LaneRound → Bool
is_quiet = lanes.all_calm disk_kind

abbrev pub are_quiet : List LaneRound → Bool
are_quiet = lanes.are_still disk_kind

-- a condition on each lane, and one on each lane with a mark of its own
abbrev pub Each : (LaneState → Type 0) → List LaneState → Type 0
Each = lanes.EachOf

abbrev pub EachMarked : (LaneState → Bool → Type 0) → List LaneState → List Bool → Type 0
EachMarked = lanes.EachMarked
