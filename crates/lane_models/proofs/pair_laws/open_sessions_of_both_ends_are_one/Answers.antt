use Rattle.lane_models.proofs.Sessions.{open_sessions_one, open_sessions_up}
use Rattle.lane_models.proofs.pair_laws.open_sessions_of_both_ends_are_one.Goals as goal

pub returns : goal.returns
returns c = record { up = open_sessions_up; one = open_sessions_one }
