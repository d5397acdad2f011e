use Rattle.lane_laws.proofs.TickSteps.{tick_begins}
use Rattle.lane_laws.proofs.invariant_laws.a_tick_begins_a_lane_anew.Goals as goal

pub returns : goal.returns
returns c = tick_begins
