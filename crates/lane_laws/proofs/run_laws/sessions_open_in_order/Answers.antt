use Rattle.lane_laws.proofs.OpeningLaw.{openings_lawful}
use Rattle.lane_laws.proofs.run_laws.sessions_open_in_order.Goals as goal

pub returns : goal.returns
returns c = openings_lawful
