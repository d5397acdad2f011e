use Rattle.lane_models.proofs.OwnResets.{net_resets_own}
use Rattle.lane_models.proofs.port_laws.an_end_resets_itself_for_its_own_causes.Goals as goal

pub returns : goal.returns
returns c = net_resets_own
