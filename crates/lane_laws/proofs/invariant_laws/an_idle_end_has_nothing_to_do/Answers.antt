use Rattle.lane_laws.proofs.IdleRuns.{idle_agrees}
use Rattle.lane_laws.proofs.invariant_laws.an_idle_end_has_nothing_to_do.Goals as goal

pub returns : goal.returns
returns c = idle_agrees
