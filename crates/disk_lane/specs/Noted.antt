-- What a lane notes of a step, beside what its ends did: whether a packet was lost, how near the image is, and whether
-- the store failed.
use Rattle.std.specs.Prelude.{◌||◌, Bool, false}
use Rattle.lane_models.specs.WireEvent.{Reset}
use Rattle.lane_models.specs.ClientState.{ClientState}
use Rattle.lane_models.specs.DiskEvent.{DiskEvent, OnWire, Stored, Works}
use Rattle.lane_models.specs.LaneState.{LaneState, NearCounts, near_disturbed}
use Rattle.lane_models.specs.LaneStep.{near_worked}

-- a step resets an end that is up, and joins one that isn't
abbrev pub noted_lossy : DiskEvent → Bool → Bool
noted_lossy (OnWire (Reset e cause packet lost)) lossy = false
noted_lossy _ lossy = lossy

abbrev pub noted_near : ClientState → DiskEvent → NearCounts → NearCounts
noted_near client (OnWire (Reset e cause packet lost)) near = near_disturbed client
noted_near client (Works event) near = near_worked event near
noted_near client _ near = near

abbrev pub noted_failed : DiskEvent → Bool → Bool
noted_failed (Works (Stored operation block count failed)) before = before || failed
noted_failed _ before = before

-- the lane with that noted
abbrev pub noted : DiskEvent → LaneState → LaneState
noted event s = record s {
  wire = record s.wire { lossy = noted_lossy event s.wire.lossy };
  failed = noted_failed event s.failed;
  near = noted_near s.client event s.near;
}
