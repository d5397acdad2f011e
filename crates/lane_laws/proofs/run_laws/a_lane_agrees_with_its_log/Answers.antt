use Rattle.lane_laws.proofs.AgreementRuns.{run_agrees}
use Rattle.lane_laws.proofs.run_laws.a_lane_agrees_with_its_log.Goals as goal

pub returns : goal.returns
returns c = run_agrees
