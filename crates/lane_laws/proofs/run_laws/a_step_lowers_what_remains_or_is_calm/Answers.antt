use Rattle.lane_laws.proofs.StepFalls.{idles, step_falls}
use Rattle.lane_laws.proofs.StepKeeps.{step_keeps}
use Rattle.lane_laws.proofs.run_laws.a_step_lowers_what_remains_or_is_calm.Goals as goal

pub returns : goal.returns
returns c = record { falls = step_falls; keeps = step_keeps; idles = idles }
