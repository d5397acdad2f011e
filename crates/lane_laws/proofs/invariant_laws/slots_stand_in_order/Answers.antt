use Rattle.lane_laws.proofs.SlotsAlong.{run_order}
use Rattle.lane_laws.proofs.invariant_laws.slots_stand_in_order.Goals as goal

pub returns : goal.returns
returns c = run_order
