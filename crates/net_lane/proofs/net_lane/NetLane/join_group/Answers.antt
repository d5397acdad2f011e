use Rattle.lane_models.specs.NetEvent.{Joins}
use Rattle.vnet_port.specs.Calls.{joining}
use Rattle.net_lane.proofs.Reaching.{reached_more}
use Rattle.net_lane.proofs.net_lane.NetLane.join_group.Goals as goal

pub invariant_of-self : goal.invariant_of-self
invariant_of-self c =
    reached_more c.self.inside.ends c.join_group.new.self (Joins (joining c.join_group.result c.args.address)) c.self.invariant c.join_group.ensures.step
