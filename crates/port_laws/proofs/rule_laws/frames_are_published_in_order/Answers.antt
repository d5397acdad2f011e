use Rattle.port_laws.proofs.RuleFrames.{port_published}
use Rattle.port_laws.proofs.rule_laws.frames_are_published_in_order.Goals as goal

pub returns : goal.returns
returns c = port_published
