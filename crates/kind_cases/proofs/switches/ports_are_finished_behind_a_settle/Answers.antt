use Rattle.kind_cases.proofs.Settling.{two_rest}
use Rattle.kind_cases.proofs.switches.ports_are_finished_behind_a_settle.Goals as goal

pub returns : goal.returns
returns c = two_rest
