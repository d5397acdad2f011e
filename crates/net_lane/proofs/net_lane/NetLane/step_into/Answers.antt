use Rattle.lane_models.specs.NetEvent.{Steps}
use Rattle.lane_models.specs.NetLaneState.{net_end}
use Rattle.vnet_port.specs.Stepping.{net_answer}
use Rattle.net_lane.proofs.Reaching.{reached_more}
use Rattle.net_lane.proofs.net_lane.NetLane.step_into.Goals as goal

pub invariant_of-self : goal.invariant_of-self
invariant_of-self c =
    reached_more c.self.inside.ends c.step_into.new.self (Steps c.args.end (net_answer c.step_into.new.out (net_end c.args.end c.step_into.new.self).last)) c.self.invariant c.step_into.ensures.step
