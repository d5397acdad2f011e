use Rattle.world_laws.proofs.Counting.{next_most, world_counts}
use Rattle.world_laws.proofs.request_laws.accepted_counts.Goals as goal

pub returns : goal.returns
returns c = record { sum = world_counts; each = next_most }
