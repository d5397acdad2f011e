use Rattle.lane_laws.proofs.RingAlong.{run_fetches}
use Rattle.lane_laws.proofs.invariant_laws.a_server_fetches_the_next_request.Goals as goal

pub returns : goal.returns
returns c = run_fetches
