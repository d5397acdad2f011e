-- Where both ends of a disk's lane are still, by its log, and both ends of a port.
use Rattle.std.specs.Prelude.{◌≡◌, ◌⊎◌, ◌+◌, ◌≤◌, true, [], length}
use Rattle.world_parts.specs.lane_laws.DiskLog.{DiskLog}
use Rattle.world_parts.specs.lane_laws.QuietLaws.{EndIsIdle}
use Rattle.world_parts.specs.lane_models.WireAt.{IsUp}
use Rattle.world_parts.specs.lane_models.FrameLaws.{IfSession}
use Rattle.world_parts.specs.lane_models.PortLog.{PortLog, log_of_end}
use Rattle.world_parts.specs.lane_models.RestLaws.{IsIdle}
use Rattle.ldc_queue.specs.Wire.{peer_of, waiting_for}
use Rattle.ldc_queue.specs.declared.end.End.{End}
use Rattle.ldc_queue.specs.declared.end.End.TheVariants.{A, B}

-- AN END IS STILL where it is up and has nothing to take and nothing to do, or where the other end's queue has no room.
pub record IsStillBy (e : End) (l : DiskLog) : Type 0 where
  pub up : IsUp e l.wire.wire
  pub still : ((waiting_for e l.wire.wire ≡ []) × EndIsIdle e l)
      ⊎ (l.shape.entries ≤ length (waiting_for (peer_of e) l.wire.wire) + 1)

-- both are, but for a stopped server's
pub record AreStillBy (l : DiskLog) : Type 0 where
  pub client : IsStillBy A l
  pub server : (l.work.stopped ≡ true) ⊎ IsStillBy B l

-- THE SAME of an end of a port; and of both
pub record IsPortStillBy (e : End) (l : PortLog) : Type 0 where
  pub up : IsUp e l.wire.wire
  pub still : ((waiting_for e l.wire.wire ≡ []) × IfSession (log_of_end e l).session (IsIdle e l))
      ⊎ (l.shape.entries ≤ length (waiting_for (peer_of e) l.wire.wire) + 1)

pub record IsPortStill (l : PortLog) : Type 0 where
  pub guest : IsPortStillBy A l
  pub switch_end : IsPortStillBy B l
