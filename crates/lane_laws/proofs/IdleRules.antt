-- What is known where an end's next step is to rest: nothing waits for it, and its session has nothing to do. And where a client's is to
-- announce: it has published all that is pending.
use Rattle.std.proofs.Common.{◌≡◌, false, Some, None, arith}
use Rattle.ldc_link.specs.Putting.{owes}
use Rattle.lane_models.specs.ClientRule as client
use Rattle.lane_models.specs.ClientState.{ClientSession, ClientState}
use Rattle.lane_models.specs.Seeing.{Seen}
use Rattle.lane_models.specs.ServerRule as server
use Rattle.lane_models.specs.ServerState.{ServerSession, ServerState}
use Rattle.lane_laws.proofs.RuleTests.{ClientIdles, PublishedAll, client_test, server_tested}

pub client_idles : (s : ClientState) (at : Seen) → client.client_rule s at ≡ client.Idles → ClientIdles s at
client_idles s at rule = client_test s at client.Idles rule

pub published_all : (s : ClientState) (at : Seen) (session : ClientSession) → client.client_rule s at ≡ client.Announces session → PublishedAll s session
published_all s at session rule = (client_test s at (client.Announces session) rule).2

pub record ServerIdles (s : ServerState) (at : Seen) : Type 0 where
  pub free : owes s.link ≡ false
  pub owed : s.handshake.owed ≡ None
  pub first : at.first ≡ None
  pub range : (session : ServerSession) → s.session ≡ Some session → session.range ≡ None

pub server_idles : (s : ServerState) (at : Seen) → server.server_rule s at ≡ server.Idles → ServerIdles s at
server_idles s at rule = grind (arith, server_tested)
