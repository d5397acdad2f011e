use Rattle.lane_laws.proofs.Disturbing.{run_later}
use Rattle.lane_laws.proofs.contents_laws.later_writes_were_disturbed.Goals as goal

pub returns : goal.returns
returns c = run_later
