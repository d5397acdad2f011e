use Rattle.port_laws.proofs.GroupsAgree.{port_joins}
use Rattle.port_laws.proofs.group_laws.a_guest_joins_each_group_once.Goals as goal

pub returns : goal.returns
returns c = port_joins
