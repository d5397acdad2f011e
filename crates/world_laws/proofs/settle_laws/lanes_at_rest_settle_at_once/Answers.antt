use Rattle.world_laws.proofs.AtOnce.{at_rest, no_lanes, server_off}
use Rattle.world_laws.proofs.settle_laws.lanes_at_rest_settle_at_once.Goals as goal

pub returns : goal.returns
returns c = record { none = no_lanes; rest = at_rest; off = server_off }
