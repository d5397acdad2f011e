use Rattle.std.specs.Prelude.{true}
use Rattle.disk_lane.specs.Events.{restart_event}
use Rattle.disk_lane.proofs.Reaching.{reached_more}
use Rattle.disk_lane.proofs.disk_lane.DiskLane.restart.Goals as goal

pub invariant_of-self : goal.invariant_of-self
invariant_of-self c = reached_more c.self.inside.ends c.restart.new.self (restart_event true) c.self.invariant c.restart.ensures
