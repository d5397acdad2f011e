use Rattle.port_laws.proofs.RuleFrames.{port_lost}
use Rattle.port_laws.proofs.rule_laws.lost_frames_are_published_and_not_acknowledged.Goals as goal

pub returns : goal.returns
returns c = port_lost
