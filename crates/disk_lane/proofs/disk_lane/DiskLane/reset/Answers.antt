use Rattle.std.specs.Prelude.{true}
use Rattle.ldc_queue.specs.declared.end.End.TheVariants.{A}
use Rattle.disk_lane.specs.Events.{reset_event}
use Rattle.disk_lane.proofs.Reaching.{reached_more}
use Rattle.disk_lane.proofs.disk_lane.DiskLane.reset.Goals as goal

pub invariant_of-self : goal.invariant_of-self
invariant_of-self c = reached_more c.self.inside.ends c.reset_client.new.self (reset_event A true) c.self.invariant c.reset_client.ensures
