use Rattle.lane_laws.proofs.RegionRuns.{run_around, run_served}
use Rattle.lane_laws.proofs.contents_laws.a_store_has_the_image_as_its_region.Goals as goal

pub returns : goal.returns
returns c = record { image = run_served; around = run_around }
