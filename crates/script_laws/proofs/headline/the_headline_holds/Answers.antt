use Rattle.script_laws.proofs.HeadlineLaw.{headline_law}
use Rattle.script_laws.proofs.headline.the_headline_holds.Goals as goal

pub returns : goal.returns
returns c = headline_law
