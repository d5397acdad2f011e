use Rattle.lane_models.specs.NetEvent.{Asked}
use Rattle.net_lane.proofs.Reaching.{reached_more}
use Rattle.net_lane.proofs.net_lane.NetLane.reset.Goals as goal

pub invariant_of-self : goal.invariant_of-self
invariant_of-self c =
    reached_more c.self.inside.ends c.reset.new.self (Asked c.args.end c.reset.result) c.self.invariant c.reset.ensures.step
