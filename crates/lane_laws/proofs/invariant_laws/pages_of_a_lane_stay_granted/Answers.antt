use Rattle.lane_laws.proofs.RingPages.{pages_stay}
use Rattle.lane_laws.proofs.invariant_laws.pages_of_a_lane_stay_granted.Goals as goal

pub returns : goal.returns
returns c = pages_stay
