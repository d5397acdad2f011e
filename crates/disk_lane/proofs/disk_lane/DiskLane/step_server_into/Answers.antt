use Rattle.disk_lane.proofs.Reaching.{reached_served}
use Rattle.disk_lane.proofs.disk_lane.DiskLane.step_server_into.Goals as goal

pub invariant_of-self : goal.invariant_of-self
invariant_of-self g c =
    let left = c.step_server_into.new in
    reached_served c.self.inside.ends left.self _ _ left.out c.self.invariant c.step_server_into.ensures.step
