use Rattle.lane_laws.proofs.HeardFront.{heard_messages, heard_packets}
use Rattle.lane_laws.proofs.invariant_laws.heard_is_a_front_of_said_on_a_lane.Goals as goal

pub returns : goal.returns
returns c = record { packets = heard_packets; messages = heard_messages }
