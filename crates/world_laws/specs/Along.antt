-- What a part of a journal says happened to each lane.
use Rattle.std.specs.Prelude.{ℕ, ◌==◌, if◌then◌else◌, List, [], ◌∷◌}
use Rattle.lane_kinds.specs.Lanes as lanes
use Rattle.lane_models.specs.DiskEvent.{DiskEvent}
use Rattle.lane_models.specs.LaneState.{LaneState}
use Rattle.lane_models.specs.LaneStep.{LaneStep}
use Rattle.world_laws.specs.Settle.{OfLane, SettleEntry}

abbrev pub event_at : ℕ → SettleEntry → List DiskEvent
event_at k (OfLane j event) = if j == k then event ∷ [] else []
event_at k _ = []

abbrev pub happened : ℕ → List SettleEntry → List DiskEvent
happened = lanes.happened event_at

-- EACH LANE, from this number on, was run by what happened to it
abbrev pub LanesMove : ℕ → List LaneState → List SettleEntry → List LaneState → Type 0
LanesMove = lanes.AllMove LaneStep event_at
