use Rattle.lane_models.proofs.ConversingRuns.{heard_messages, heard_packets}
use Rattle.lane_models.proofs.CoreLaws.{conversing}
use Rattle.lane_models.proofs.pair_laws.two_ends_converse.Goals as goal

pub returns : goal.returns
returns c = record { streams = conversing; packets = heard_packets; messages = heard_messages }
