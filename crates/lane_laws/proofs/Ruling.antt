-- What is known where a rule is an end's next step.
use Rattle.std.proofs.Common.{arith}
use Rattle.lane_models.specs.ClientRule as client
use Rattle.lane_models.specs.ClientState.{ClientState}
use Rattle.lane_models.specs.Seeing.{Seen}
use Rattle.lane_models.specs.ServerRule as server
use Rattle.lane_models.specs.ServerState.{ServerState}
use Rattle.lane_laws.specs.RuleFacts.{ClientMay, ServerMay}
use Rattle.lane_laws.proofs.RuleTests.{ClientTested, ServerTested, client_tested, server_tested}

client_may_by : (s : ClientState) (at : Seen) (rule : client.ClientRule) → ClientTested s at rule → ClientMay s at rule
client_may_by s at rule test = grind arith

pub client_may : (s : ClientState) (at : Seen) → ClientMay s at (client.client_rule s at)
client_may s at = client_may_by s at (client.client_rule s at) (client_tested s at)

server_may_by : (s : ServerState) (at : Seen) (rule : server.ServerRule) → ServerTested s at rule → ServerMay s at rule
server_may_by s at rule test = grind arith

pub server_may : (s : ServerState) (at : Seen) → ServerMay s at (server.server_rule s at)
server_may s at = server_may_by s at (server.server_rule s at) (server_tested s at)
