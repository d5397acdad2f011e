use Rattle.world_laws.proofs.Behind.{all_still}
use Rattle.world_laws.proofs.settle_laws.all_ends_are_still_behind_a_quiet_round.Goals as goal

pub returns : goal.returns
returns c = all_still
