use Rattle.lane_laws.proofs.Completions.{run_shows}
use Rattle.lane_laws.proofs.contents_laws.completions_show_their_content.Goals as goal

pub returns : goal.returns
returns c = run_shows
