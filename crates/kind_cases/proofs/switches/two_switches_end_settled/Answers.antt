use Rattle.kind_cases.proofs.Settling.{two_settle}
use Rattle.kind_cases.proofs.switches.two_switches_end_settled.Goals as goal

pub returns : goal.returns
returns c = two_settle
