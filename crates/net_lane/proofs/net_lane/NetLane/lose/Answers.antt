use Rattle.net_lane.specs.Events.{lost_event}
use Rattle.net_lane.proofs.Reaching.{reached_more}
use Rattle.net_lane.proofs.net_lane.NetLane.lose.Goals as goal

pub invariant_of-self : goal.invariant_of-self
invariant_of-self c =
    reached_more c.self.inside.ends c.lose.new.self (lost_event c.args.end c.lose.result) c.self.invariant c.lose.ensures.step
