use Rattle.std.specs.Prelude.{true}
use Rattle.ldc_queue.specs.declared.end.End.TheVariants.{B}
use Rattle.disk_lane.specs.Events.{reset_event}
use Rattle.disk_lane.proofs.Reaching.{reached_more}
use Rattle.disk_lane.proofs.disk_lane.DiskLane.reset_server.Goals as goal

pub invariant_of-self : goal.invariant_of-self
invariant_of-self c = reached_more c.self.inside.ends c.reset_server.new.self (reset_event B true) c.self.invariant c.reset_server.ensures
