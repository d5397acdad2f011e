-- What is known where a rule is an end's next step.
use Rattle.std.specs.Prelude.{◌≡◌, ◌≢◌, ◌⊎◌, ◌-◌, ◌<◌, false, Some, None, slice_get}
use Rattle.ldc_link.specs.Putting.{owes}
use Rattle.ldc_queue.specs.declared.end.ChannelState.TheVariants.{Up}
use Rattle.lane_models.specs.ClientRule as client
use Rattle.lane_models.specs.ClientState.{ClientState}
use Rattle.lane_models.specs.Seeing.{Seen}
use Rattle.lane_models.specs.ServerRule as server
use Rattle.lane_models.specs.ServerState.{ServerSession, ServerState, SlotRange}
use Rattle.vio_tag.specs.declared.message.Message.{Message}

abbrev pub ClientMay : ClientState → Seen → client.ClientRule → Type 0
ClientMay s at client.Joins = at.state ≢ Up
ClientMay s at (client.Completes session) = (at.state ≡ Up) × (s.session ≡ Some session) × (session.completed < session.acked)
ClientMay s at (client.Takes packet) = (at.state ≡ Up) × (at.first ≡ Some packet)
ClientMay s at client.Puts = at.state ≡ Up
ClientMay s at (client.Says message) = (at.state ≡ Up) × (owes s.link ≡ false) × (s.handshake.owed ≡ Some message)
ClientMay s at (client.Announces session) =
    (at.state ≡ Up) × (owes s.link ≡ false) × (s.handshake.owed ≡ None) × (s.session ≡ Some session) × (session.announced < session.published)
ClientMay s at (client.Publishes session request) =
    (at.state ≡ Up) × (s.session ≡ Some session) × (slice_get s.pending (session.published - session.completed) ≡ Some request)
ClientMay s at client.Idles = at.state ≡ Up

-- the message is of the handshake, or the answer to a range
pub record AnswersMessage (s : ServerState) (message : Message) : Type 0 where
  pub session : ServerSession
  pub range : SlotRange
  pub nothing_owed : s.handshake.owed ≡ None
  pub session_is : s.session ≡ Some session
  pub range_is : session.range ≡ Some range
  pub message_is : message ≡ server.answer s range

abbrev pub ServerSays : ServerState → Message → Type 0
ServerSays s message = (s.handshake.owed ≡ Some message) ⊎ AnswersMessage s message

abbrev pub ServerMay : ServerState → Seen → server.ServerRule → Type 0
ServerMay s at server.Joins = at.state ≢ Up
ServerMay s at server.Puts = at.state ≡ Up
ServerMay s at (server.Says message) =
    (at.state ≡ Up) × (owes s.link ≡ false) × ServerSays s message
ServerMay s at (server.Fetches session) = (at.state ≡ Up) × (s.session ≡ Some session)
ServerMay s at (server.Serves session work) = (at.state ≡ Up) × (s.session ≡ Some session) × (s.work ≡ Some work)
ServerMay s at (server.Takes packet) = (at.state ≡ Up) × (at.first ≡ Some packet)
ServerMay s at server.Idles = at.state ≡ Up
