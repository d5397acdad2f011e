use Rattle.port_laws.proofs.RuleAsks.{port_asks}
use Rattle.port_laws.proofs.rule_laws.each_announcement_that_is_taken_is_the_next.Goals as goal

pub returns : goal.returns
returns c = port_asks
