use Rattle.lane_models.proofs.Numbering.{said_lawful}
use Rattle.lane_models.proofs.end_laws.what_an_end_says_is_cut_and_numbered.Goals as goal

pub returns : goal.returns
returns c = said_lawful
