use Rattle.port_laws.proofs.RuleNoneUntold.{port_none_untold}
use Rattle.port_laws.proofs.ring_laws.no_group_is_left_untold_where_both_ends_are_idle.Goals as goal

pub returns : goal.returns
returns c = port_none_untold
