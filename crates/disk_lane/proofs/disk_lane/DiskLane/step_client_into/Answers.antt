use Rattle.vdisk_client.specs.Calls.{client_event}
use Rattle.disk_lane.proofs.Reaching.{reached_more}
use Rattle.disk_lane.proofs.disk_lane.DiskLane.step_client_into.Goals as goal

pub invariant_of-self : goal.invariant_of-self
invariant_of-self c =
    let left = c.step_client_into.new in
    reached_more c.self.inside.ends left.self (client_event left.out left.self.client.last) c.self.invariant
    c.step_client_into.ensures.step
