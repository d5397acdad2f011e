use Rattle.lane_models.specs.NetEvent.{Gives}
use Rattle.vnet_port.specs.Calls.{given}
use Rattle.net_lane.proofs.Reaching.{reached_more}
use Rattle.net_lane.proofs.net_lane.NetLane.send.Goals as goal

pub invariant_of-self : goal.invariant_of-self
invariant_of-self c =
    reached_more c.self.inside.ends c.send.new.self (Gives c.args.end (given c.send.result c.args.frame.now)) c.self.invariant c.send.ensures.step
