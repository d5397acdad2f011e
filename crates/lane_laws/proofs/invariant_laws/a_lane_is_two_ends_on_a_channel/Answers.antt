use Rattle.lane_laws.proofs.LaneChannel.{matched}
use Rattle.lane_laws.proofs.LaneCores.{lane_cores, lane_fits}
use Rattle.lane_laws.proofs.invariant_laws.a_lane_is_two_ends_on_a_channel.Goals as goal

pub returns : goal.returns
returns c = record { run = lane_cores; sizes = lane_fits; offers = matched }
