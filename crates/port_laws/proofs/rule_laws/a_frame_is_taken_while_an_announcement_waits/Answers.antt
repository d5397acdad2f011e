use Rattle.port_laws.proofs.RuleFrames.{port_takes}
use Rattle.port_laws.proofs.rule_laws.a_frame_is_taken_while_an_announcement_waits.Goals as goal

pub returns : goal.returns
returns c = port_takes
