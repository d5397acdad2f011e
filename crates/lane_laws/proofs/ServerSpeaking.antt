-- A server that gets a message to put is up, and owes one answer to a range at most.
use Rattle.std.proofs.Common.{◌≡◌, ◌≤◌, Option, Some, None, arith}
use Rattle.ldc_queue.specs.declared.end.ChannelState.TheVariants.{Up}
use Rattle.lane_models.specs.Seeing.{Seen}
use Rattle.lane_models.specs.ServerPutting.{server_holds}
use Rattle.lane_models.specs.ServerRule.{ServerRule}
use Rattle.lane_models.specs.ServerState.{ServerSession, ServerState, SlotRange}
use Rattle.lane_laws.specs.Budget.{one_range, range_packets}
use Rattle.lane_laws.specs.RuleFacts.{ServerMay}

range_one : (range : Option SlotRange) → one_range range ≤ 1
range_one None = omega arith
range_one (Some range) = omega arith

pub range_few : (session : Option ServerSession) → range_packets session ≤ 1
range_few None = omega arith
range_few (Some s) = range_one s.range

pub server_holds_up : (s : ServerState) (at : Seen) (rule : ServerRule) (held : ServerState) → ServerMay s at rule → server_holds rule s ≡ Some held → at.state ≡ Up
server_holds_up s at rule held may is = grind arith

-- what it holds stands in its link alone
pub server_holds_link : (s : ServerState) (rule : ServerRule) (held : ServerState) → server_holds rule s ≡ Some held → held ≡ record s { link = held.link }
server_holds_link s rule held is = grind arith
