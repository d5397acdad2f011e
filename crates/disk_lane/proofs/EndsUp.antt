-- Whether an end was up before a step that joined or reset it: what was lost for it is known by that.
use Rattle.std.proofs.Common.{◌≡◌, ◌≢◌, ℕ, Bool, false, List, Option, refl, subst}
use Rattle.ldc_queue.specs.declared.end.ChannelState.{ChannelState}
use Rattle.ldc_queue.specs.declared.end.ChannelState.TheVariants.{Down, Up, Resetting}
use Rattle.vio_tag.specs.declared.cause.Cause.{Cause}
use Rattle.lane_models.specs.WireLog.{lossy_behind}
use Rattle.lane_models.specs.ClientRule as client
use Rattle.lane_models.specs.ClientState.{ClientState}
use Rattle.lane_models.specs.ClientStep.{ClientFails}
use Rattle.lane_models.specs.Seeing.{Seen}
use Rattle.lane_models.specs.ServerRule as server
use Rattle.lane_models.specs.ServerState.{ServerState}
use Rattle.lane_models.specs.ServerStep.{ServerFails}
use Rattle.cookie_copy.specs.Reach.{Reach}
use Rattle.lane_laws.proofs.Ruling.{client_may, server_may}
use Rattle.lane_laws.specs.RuleFacts.{ClientMay, ServerMay}

pub behind_up : (was : ChannelState) (lossy : Bool) → was ≡ Up → lossy_behind was lossy ≡ false
behind_up Up lossy up = refl
behind_up Down lossy up = absurd (cc up)
behind_up Resetting lossy up = absurd (cc up)

pub behind_down : (was : ChannelState) (lossy : Bool) → was ≢ Up → lossy_behind was lossy ≡ lossy
behind_down Up lossy down = absurd (down refl)
behind_down Down lossy down = refl
behind_down Resetting lossy down = refl

-- an end that joins isn't up
pub client_joins : (s : ClientState) (at : Seen) → client.client_rule s at ≡ client.Joins → at.state ≢ Up
client_joins s at is = let may : ClientMay s at client.Joins = subst (ClientMay s at) is (client_may s at) in may

pub server_joins : (s : ServerState) (at : Seen) → server.server_rule s at ≡ server.Joins → at.state ≢ Up
server_joins s at is = let may : ServerMay s at server.Joins = subst (ServerMay s at) is (server_may s at) in may

-- and one that resets itself is
client_fails : (rule : client.ClientRule) (s : ClientState) (at : Seen) (memory : List ℕ) (cause : Cause) (packet : Option (List ℕ))
    → ClientMay s at rule → ClientFails rule s memory cause packet → at.state ≡ Up
client_fails (client.Takes bytes) s at memory cause packet may fails = may.0
client_fails (client.Completes session) s at memory cause packet may fails = may.0
client_fails _ s at memory cause packet may fails = absurd fails

pub client_resets : (s : ClientState) (at : Seen) (memory : List ℕ) (cause : Cause) (packet : Option (List ℕ))
    → ClientFails (client.client_rule s at) s memory cause packet → at.state ≡ Up
client_resets s at memory cause packet fails = client_fails (client.client_rule s at) s at memory cause packet (client_may s at) fails

server_fails : (rule : server.ServerRule) (s : ServerState) (at : Seen) (reach : Reach) (cause : Cause) (packet : Option (List ℕ)) (new : List ℕ)
    → ServerMay s at rule → ServerFails rule s reach cause packet new → at.state ≡ Up
server_fails (server.Takes bytes) s at reach cause packet new may fails = may.0
server_fails (server.Fetches session) s at reach cause packet new may fails = may.0
server_fails (server.Serves session work) s at reach cause packet new may fails = may.0
server_fails _ s at reach cause packet new may fails = absurd fails

pub server_resets : (s : ServerState) (at : Seen) (reach : Reach) (cause : Cause) (packet : Option (List ℕ)) (new : List ℕ)
    → ServerFails (server.server_rule s at) s reach cause packet new → at.state ≡ Up
server_resets s at reach cause packet new fails =
    server_fails (server.server_rule s at) s at reach cause packet new (server_may s at) fails
