use Rattle.lane_models.proofs.Resets.{reset_says}
use Rattle.lane_models.proofs.end_laws.a_reset_of_an_end_says_why.Goals as goal

pub returns : goal.returns
returns c = reset_says
