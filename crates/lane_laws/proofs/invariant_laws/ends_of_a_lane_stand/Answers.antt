use Rattle.lane_laws.proofs.ReachedFacts.{client_follows, counts_stand, memory_stays, pending_fits, server_follows}
use Rattle.lane_laws.proofs.invariant_laws.ends_of_a_lane_stand.Goals as goal

pub returns : goal.returns
returns c = record { client_link = client_follows; server_link = server_follows; counts = counts_stand; pending = pending_fits; memory = memory_stays }
