use Rattle.lane_models.proofs.OwnSteps.{client_resets_own, server_resets_own}
use Rattle.lane_models.proofs.disk_laws.steps_reset_for_their_own_causes.Goals as goal

pub returns-clause-client : goal.returns-clause-client
returns-clause-client c = client_resets_own

pub returns-clause-server : goal.returns-clause-server
returns-clause-server c = server_resets_own
