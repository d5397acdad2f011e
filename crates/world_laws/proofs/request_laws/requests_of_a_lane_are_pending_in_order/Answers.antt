use Rattle.world_laws.proofs.Pending.{world_pending}
use Rattle.world_laws.proofs.RequestLaws.{disk_next, disk_pending}
use Rattle.world_laws.proofs.RequestLog.{next_is, pending_are}
use Rattle.world_laws.proofs.request_laws.requests_of_a_lane_are_pending_in_order.Goals as goal

pub returns : goal.returns
returns c = record { pending = pending_are; next = next_is; of_disk = disk_pending; next_of_disk = disk_next; of_world = world_pending }
