use Rattle.lane_laws.proofs.TickLaw.{tick_lawful}
use Rattle.lane_laws.proofs.invariant_laws.ticks_are_calm_where_all_is_done.Goals as goal

pub returns : goal.returns
returns c = tick_lawful
