use Rattle.net_lane.specs.Events.{ticked_event}
use Rattle.net_lane.proofs.Reaching.{reached_more}
use Rattle.net_lane.proofs.net_lane.NetLane.tick.Goals as goal

pub invariant_of-self : goal.invariant_of-self
invariant_of-self c =
    reached_more c.self.inside.ends c.tick.new.self (ticked_event c.args.queued c.tick.result) c.self.invariant c.tick.ensures.step
