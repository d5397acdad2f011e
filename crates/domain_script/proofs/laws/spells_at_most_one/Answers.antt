use Rattle.domain_script.proofs.OneEvent.{one_spelled}
use Rattle.domain_script.proofs.laws.spells_at_most_one.Goals as goal

pub returns : goal.returns
returns c = one_spelled
