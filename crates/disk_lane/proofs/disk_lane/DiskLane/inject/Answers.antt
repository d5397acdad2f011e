use Rattle.disk_lane.specs.Events.{injected_event}
use Rattle.disk_lane.proofs.Reaching.{reached_more}
use Rattle.disk_lane.proofs.disk_lane.DiskLane.inject.Goals as goal

pub invariant_of-self : goal.invariant_of-self
invariant_of-self c = reached_more c.self.inside.ends c.inject.new.self (injected_event c.args.end c.args.packet.now c.inject.result) c.self.invariant c.inject.ensures
