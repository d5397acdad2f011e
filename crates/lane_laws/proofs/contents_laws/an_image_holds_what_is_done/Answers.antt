use Rattle.lane_laws.proofs.HeadlineRuns.{run_all_done, run_image}
use Rattle.lane_laws.proofs.contents_laws.an_image_holds_what_is_done.Goals as goal

pub returns : goal.returns
returns c = record { holds = run_image; all = run_all_done }
