use Rattle.lane_laws.proofs.NearAgreeing.{run_agrees}
use Rattle.lane_laws.proofs.contents_laws.near_counts_are_the_logs.Goals as goal

pub returns : goal.returns
returns c = run_agrees
