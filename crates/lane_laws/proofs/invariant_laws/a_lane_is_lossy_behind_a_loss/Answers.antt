use Rattle.lane_laws.proofs.LossRuns.{log_tells, state_tells}
use Rattle.lane_laws.proofs.invariant_laws.a_lane_is_lossy_behind_a_loss.Goals as goal

pub returns : goal.returns
returns c = record { state = state_tells; log = log_tells }
