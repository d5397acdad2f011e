use Rattle.lane_models.proofs.Numbering.{heard_lawful}
use Rattle.lane_models.proofs.end_laws.what_an_end_hears_may_come.Goals as goal

pub returns : goal.returns
returns c = heard_lawful
