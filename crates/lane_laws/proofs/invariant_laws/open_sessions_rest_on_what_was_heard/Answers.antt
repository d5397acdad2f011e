use Rattle.lane_laws.proofs.Speaking.{client_open_rests, server_open_rests}
use Rattle.lane_laws.proofs.invariant_laws.open_sessions_rest_on_what_was_heard.Goals as goal

pub returns : goal.returns
returns c = record { client = client_open_rests; server = server_open_rests }
