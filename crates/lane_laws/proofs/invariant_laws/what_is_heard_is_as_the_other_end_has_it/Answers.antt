use Rattle.lane_laws.proofs.HeardAsSaid.{client_heard, server_heard}
use Rattle.lane_laws.proofs.invariant_laws.what_is_heard_is_as_the_other_end_has_it.Goals as goal

pub returns : goal.returns
returns c = record { client = client_heard; server = server_heard }
