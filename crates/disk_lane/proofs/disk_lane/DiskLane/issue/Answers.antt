use Rattle.lane_models.specs.DiskEvent.{Asks}
use Rattle.vdisk_client.specs.Calls.{admitted}
use Rattle.disk_lane.proofs.Reaching.{reached_more}
use Rattle.disk_lane.proofs.disk_lane.DiskLane.issue.Goals as goal

pub invariant_of-self : goal.invariant_of-self
invariant_of-self c = reached_more c.self.inside.ends c.issue.new.self (Asks (admitted c.issue.result c.args.request.now)) c.self.invariant c.issue.ensures
