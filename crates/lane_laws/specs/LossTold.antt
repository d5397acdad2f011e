-- Whether a packet was lost since a lane's queues were last emptied, by the events alone.
use Rattle.std.specs.Prelude.{◌≡◌, Bool, true, List, map}
use Rattle.lane_models.specs.LossStands.{LossStands}
use Rattle.lane_models.specs.DiskEvent.{DiskEvent}
use Rattle.lane_models.specs.LaneState.{Shape}
use Rattle.lane_laws.specs.ChannelEnds.{core_event}

-- it is so exactly where the loss of a packet stands behind the last event that emptied them, as the two ends on the channel have these
pub record TellsLoss (shape : Shape) (events : List DiskEvent) (is_lossy : Bool) : Type 0 where
  pub lossy : is_lossy ≡ true → LossStands shape.entries (map core_event events)
  pub lost : LossStands shape.entries (map core_event events) → is_lossy ≡ true
