use Rattle.lane_laws.proofs.NewSessions.{new_session}
use Rattle.lane_laws.proofs.run_laws.nothing_of_an_old_session_is_done.Goals as goal

pub returns : goal.returns
returns c = new_session
