use Rattle.port_laws.proofs.RuleFrames.{port_acknowledges}
use Rattle.port_laws.proofs.rule_laws.each_ack_names_the_frames_taken_since_the_last.Goals as goal

pub returns : goal.returns
returns c = port_acknowledges
