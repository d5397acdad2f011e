use Rattle.lane_laws.proofs.NearRuns.{fresh_is_near, run_near}
use Rattle.lane_laws.proofs.contents_laws.images_stay_near.Goals as goal

pub returns : goal.returns
returns c = record { fresh = fresh_is_near; steps = run_near }
