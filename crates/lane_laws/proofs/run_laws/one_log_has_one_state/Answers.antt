use Rattle.lane_laws.proofs.OneState.{same_lane}
use Rattle.lane_laws.proofs.run_laws.one_log_has_one_state.Goals as goal

pub returns : goal.returns
returns c = same_lane
