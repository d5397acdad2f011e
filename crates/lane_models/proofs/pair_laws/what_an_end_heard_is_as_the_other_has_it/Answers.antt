use Rattle.lane_models.proofs.Sessions.{heard_as_said}
use Rattle.lane_models.proofs.pair_laws.what_an_end_heard_is_as_the_other_has_it.Goals as goal

pub returns : goal.returns
returns c = heard_as_said
