use Rattle.lane_models.proofs.KnownAttributes.{attributes_run}
use Rattle.lane_models.proofs.session_laws.open_sessions_know_each_others_attributes.Goals as goal

pub returns : goal.returns
returns c = attributes_run
