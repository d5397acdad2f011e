use Rattle.port_laws.proofs.RuleGroups.{port_groups_said}
use Rattle.port_laws.proofs.group_laws.each_answer_to_groups_is_the_one_that_is_owed.Goals as goal

pub returns : goal.returns
returns c = port_groups_said
