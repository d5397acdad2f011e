-- What more is known where a rule is an end's next step: that its link holds nothing, that nothing is owed or urgent, and how its range stands.
use Rattle.std.proofs.Common.{◌≡◌, ℕ, ◌⊎◌, Bool, true, false, Option, Some, None, List, refl, arith}
use Rattle.std.specs.Prelude.{◌&&◌, ◌||◌, is_none, is_some, ⊤}
use Rattle.ldc_link.specs.Putting.{owes, owes_control}
use Rattle.vdisk_msg.specs.declared.request.Request.{Request}
use Rattle.vio_tag.specs.declared.message.Message.{Message}
use Rattle.lane_models.specs.ClientPutting.{client_holds}
use Rattle.lane_models.specs.ClientRule as client
use Rattle.lane_models.specs.ClientState.{ClientSession, ClientState}
use Rattle.lane_models.specs.Seeing.{Seen}
use Rattle.lane_models.specs.ServerRule as server
use Rattle.lane_models.specs.ServerState.{ServerState}
use Rattle.lane_laws.proofs.RuleTests.{AnswersFree, ServerTested, ServesFree, TakesFree, client_test, server_tested}

-- THE CLIENT publishes only where its link holds nothing, puts a packet where it owes one, and takes one where nothing is urgent
pub publishes_free : (s : ClientState) (at : Seen) (session : ClientSession) (request : Request) → client.client_rule s at ≡ client.Publishes session request → owes s.link ≡ false
publishes_free s at session request rule = let test = client_test s at (client.Publishes session request) rule in test.0.free

pub puts_owe : (s : ClientState) (at : Seen) → client.client_rule s at ≡ client.Puts → owes s.link ≡ true
puts_owe s at rule = (client_test s at client.Puts rule).1

pub takes_calm : (s : ClientState) (at : Seen) (packet : List ℕ) → client.client_rule s at ≡ client.Takes packet → client.is_urgent s ≡ false
takes_calm s at packet rule = (client_test s at (client.Takes packet) rule).2

-- where nothing is urgent, a client puts only where nothing waits for it
pub puts_calm : (s : ClientState) (at : Seen) (held : ClientState) → client_holds (client.client_rule s at) s ≡ Some held → client.is_urgent s ≡ false → at.first ≡ None
puts_calm s at held is calm = grind arith

middle_false : (a b c : Bool) → (a || b || c) ≡ false → b ≡ false
middle_false true b c is = absurd (cc is)
middle_false false true c is = absurd (cc is)
middle_false false false c is = refl

pub nothing_owed : (owed : Option Message) → is_some owed ≡ false → owed ≡ None
nothing_owed None is = refl
nothing_owed (Some message) is = absurd (cc is)

pub owes_nothing : (s : ClientState) (at : Seen) (packet : List ℕ) → client.client_rule s at ≡ client.Takes packet → s.handshake.owed ≡ None
owes_nothing s at packet rule =
    nothing_owed s.handshake.owed (middle_false (owes_control s.link) (is_some s.handshake.owed) (is_none s.session && owes s.link) (takes_calm s at packet rule))

-- THE SERVER
abbrev pub ServerFree : ServerState → server.ServerRule → Type 0
ServerFree s (server.Takes packet) = TakesFree s
ServerFree s server.Puts = owes s.link ≡ true
ServerFree s (server.Says message) = (owes s.link ≡ false) × ((s.handshake.owed ≡ Some message) ⊎ AnswersFree s message)
ServerFree s (server.Fetches session) = ServesFree s session × (s.work ≡ None)
ServerFree s (server.Serves session work) = ServesFree s session × (s.work ≡ Some work)
ServerFree s _ = ⊤

free_by : (s : ServerState) (at : Seen) (rule : server.ServerRule) → ServerTested s at rule → ServerFree s rule
free_by s at rule test = grind arith

pub server_free : (s : ServerState) (at : Seen) → ServerFree s (server.server_rule s at)
server_free s at = free_by s at (server.server_rule s at) (server_tested s at)
