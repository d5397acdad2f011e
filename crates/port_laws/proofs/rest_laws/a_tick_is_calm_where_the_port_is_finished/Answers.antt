use Rattle.port_laws.proofs.RuleRest.{port_ticks}
use Rattle.port_laws.proofs.rest_laws.a_tick_is_calm_where_the_port_is_finished.Goals as goal

pub returns : goal.returns
returns c = port_ticks
