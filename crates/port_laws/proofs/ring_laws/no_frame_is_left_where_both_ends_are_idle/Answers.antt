use Rattle.port_laws.proofs.RuleNoneLeft.{port_none_left}
use Rattle.port_laws.proofs.ring_laws.no_frame_is_left_where_both_ends_are_idle.Goals as goal

pub returns : goal.returns
returns c = port_none_left
