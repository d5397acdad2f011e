-- The counts of what is near, as a lane has them: k are finished, m were published in an earlier session, of those that were
-- ever published, which are pending.
use Rattle.std.specs.Prelude.{◌≤◌, length}
use Rattle.lane_models.specs.ClientState.{ever_published_count}
use Rattle.lane_models.specs.LaneState.{LaneState}

pub record NearInLane (s : LaneState) : Type 0 where
  pub finished : s.near.k ≤ ever_published_count s.client
  pub earlier : s.near.m ≤ ever_published_count s.client
  pub published : ever_published_count s.client ≤ length s.client.pending
