use Rattle.lane_laws.proofs.TwoIdle.{two_idle_lawful}
use Rattle.lane_laws.proofs.run_laws.two_idle_ends_have_finished.Goals as goal

pub returns : goal.returns
returns c = two_idle_lawful
