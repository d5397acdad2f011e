use Rattle.disk_lane.specs.Events.{poked_event}
use Rattle.disk_lane.proofs.Reaching.{reached_more}
use Rattle.disk_lane.proofs.disk_lane.DiskLane.poke.Goals as goal

pub invariant_of-self : goal.invariant_of-self
invariant_of-self c = reached_more c.self.inside.ends c.poke.new.self (poked_event c.args.at c.args.bytes.now c.poke.result) c.self.invariant c.poke.ensures
