use Rattle.world_laws.proofs.Forging.{forged_by_events, world_forged}
use Rattle.world_laws.proofs.request_laws.forging_is_told.Goals as goal

pub returns : goal.returns
returns c = record { lane = forged_by_events; world = world_forged }
