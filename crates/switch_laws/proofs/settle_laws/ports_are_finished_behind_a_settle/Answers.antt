use Rattle.switch_laws.proofs.Settling.{switch_rests}
use Rattle.switch_laws.proofs.settle_laws.ports_are_finished_behind_a_settle.Goals as goal

pub returns : goal.returns
returns c = switch_rests
