use Rattle.lane_laws.proofs.RingAlong.{run_ring}
use Rattle.lane_laws.proofs.invariant_laws.the_ring_is_as_its_log_says.Goals as goal

pub returns : goal.returns
returns c = run_ring
