use Rattle.port_laws.proofs.RuleFrames.{port_admits}
use Rattle.port_laws.proofs.rule_laws.a_frame_is_queued_or_refused_rightly.Goals as goal

pub returns : goal.returns
returns c = port_admits
