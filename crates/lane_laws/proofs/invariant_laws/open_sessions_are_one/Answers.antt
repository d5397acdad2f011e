use Rattle.lane_laws.proofs.Agreeing.{client_offers}
use Rattle.lane_laws.proofs.OneSession.{one_session}
use Rattle.lane_laws.proofs.invariant_laws.open_sessions_are_one.Goals as goal
use Rattle.lane_laws.proofs.HeardFront.{both_up}

pub returns : goal.returns
returns c = record { up = both_up; one = one_session; offer = client_offers }
