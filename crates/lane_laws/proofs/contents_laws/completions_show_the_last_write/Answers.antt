use Rattle.lane_laws.proofs.HeadlineRuns.{run_completion}
use Rattle.lane_laws.proofs.contents_laws.completions_show_the_last_write.Goals as goal

pub returns : goal.returns
returns c = run_completion
