-- The channel of a disk's lane, as its two ends are given it.
use Rattle.std.specs.Prelude.{◌≡◌}
use Rattle.ldc_queue.specs.ChannelView.{ChannelView}
use Rattle.lane_models.specs.LaneState.{LaneState}

-- the channel shows the lane's wire
pub record IsChannelOf (c : ChannelView) (s : LaneState) : Type 0 where
  pub entries : c.entries ≡ s.shape.entries
  pub wire : c.wire ≡ s.wire.wire
