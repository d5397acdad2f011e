use Rattle.lane_models.proofs.Sessions.{said_as_held}
use Rattle.lane_models.proofs.end_laws.an_end_says_what_its_handshake_holds.Goals as goal

pub returns : goal.returns
returns c = said_as_held
