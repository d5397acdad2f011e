use Rattle.disk_lane.specs.Events.{tick_event}
use Rattle.disk_lane.proofs.Reaching.{reached_more}
use Rattle.disk_lane.proofs.disk_lane.DiskLane.tick.Goals as goal

pub invariant_of-self : goal.invariant_of-self
invariant_of-self c = reached_more c.self.inside.ends c.tick.new.self (tick_event c.tick.result) c.self.invariant c.tick.ensures
