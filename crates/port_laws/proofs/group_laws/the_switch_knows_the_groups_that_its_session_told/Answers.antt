use Rattle.port_laws.proofs.RuleGroups.{port_told}
use Rattle.port_laws.proofs.group_laws.the_switch_knows_the_groups_that_its_session_told.Goals as goal

pub returns : goal.returns
returns c = port_told
