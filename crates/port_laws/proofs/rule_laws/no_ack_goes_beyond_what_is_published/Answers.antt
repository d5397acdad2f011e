use Rattle.port_laws.proofs.RuleFrames.{port_sees}
use Rattle.port_laws.proofs.rule_laws.no_ack_goes_beyond_what_is_published.Goals as goal

pub returns : goal.returns
returns c = port_sees
