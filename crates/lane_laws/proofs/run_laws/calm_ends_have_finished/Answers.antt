use Rattle.lane_laws.proofs.CalmEnds.{calm_are_idle, calm_are_still, calm_have_finished}
use Rattle.lane_laws.proofs.run_laws.calm_ends_have_finished.Goals as goal

pub returns : goal.returns
returns c = record { still = calm_are_still; idle = calm_are_idle; finished = calm_have_finished }
