use Rattle.lane_laws.proofs.Speaking.{client_said, server_said}
use Rattle.lane_laws.proofs.invariant_laws.ends_say_what_their_handshakes_hold.Goals as goal

pub returns : goal.returns
returns c = record { client = client_said; server = server_said }
