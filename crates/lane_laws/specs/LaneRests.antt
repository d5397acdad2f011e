-- Both ends of a lane rest on what they heard, and said what their handshakes hold, as ends on a channel.
use Rattle.std.specs.Prelude.{List}
use Rattle.ldc_link.specs.declared.phase.Role.TheVariants.{Initiator, Responder}
use Rattle.ldc_queue.specs.Transcript.{Utterance}
use Rattle.lane_models.specs.TranscriptLog.{TranscriptLog}
use Rattle.lane_models.specs.ClientState.{ClientState}
use Rattle.lane_models.specs.LaneState.{LaneState}
use Rattle.lane_models.specs.ServerState.{ServerState}
use Rattle.lane_models.specs.EndRests.{EndRests, EndUtters}
use Rattle.lane_laws.specs.ChannelEnds.{client_core, server_core}

abbrev pub ClientRests : ClientState → List Utterance → Type 0
ClientRests c utterances = EndRests Initiator (client_core c) utterances

abbrev pub ServerRests : ServerState → List Utterance → Type 0
ServerRests v utterances = EndRests Responder (server_core v) utterances

pub record LaneRests (s : LaneState) (transcript : TranscriptLog) : Type 0 where
  pub client : ClientRests s.client transcript.a
  pub server : ServerRests s.server transcript.b

abbrev pub ClientUtters : ClientState → List Utterance → Type 0
ClientUtters c utterances = EndUtters (client_core c) utterances

abbrev pub ServerUtters : ServerState → List Utterance → Type 0
ServerUtters v utterances = EndUtters (server_core v) utterances

pub record LaneUtters (s : LaneState) (transcript : TranscriptLog) : Type 0 where
  pub client : ClientUtters s.client transcript.a
  pub server : ServerUtters s.server transcript.b
