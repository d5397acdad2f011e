use Rattle.port_laws.proofs.RuleTable.{port_answers}
use Rattle.port_laws.proofs.wire_laws.what_changes_nothing_on_a_port_is_answered_rightly.Goals as goal

pub returns : goal.returns
returns c = port_answers
