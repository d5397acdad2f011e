use Rattle.lane_laws.proofs.RingAlong.{run_status}
use Rattle.lane_laws.proofs.invariant_laws.a_completion_carries_the_servers_status.Goals as goal

pub returns : goal.returns
returns c = run_status
