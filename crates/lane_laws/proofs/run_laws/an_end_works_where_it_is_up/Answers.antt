use Rattle.lane_laws.proofs.EndsWorking.{works_lawful}
use Rattle.lane_laws.proofs.run_laws.an_end_works_where_it_is_up.Goals as goal

pub returns : goal.returns
returns c = works_lawful
