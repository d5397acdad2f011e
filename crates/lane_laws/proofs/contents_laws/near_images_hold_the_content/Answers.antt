use Rattle.lane_laws.proofs.Holding.{run_holds, run_settled}
use Rattle.lane_laws.proofs.contents_laws.near_images_hold_the_content.Goals as goal

pub returns : goal.returns
returns c = record { holds = run_holds; settled = run_settled }
