-- Each event of a lane leaves both ends resting on what they heard, and having said what their handshakes hold, as ends on a channel do.
use Rattle.std.proofs.Common.{◌≡◌, ◌≤◌, true, false, ◌++◌, length, Some, List, sym, subst, arith}
use Rattle.std.specs.Prelude.{is_none, is_some, ⊤}
use Rattle.runs.specs.Lawful.{run_lawful}
use Rattle.runs.specs.Run.{Run}
use Rattle.ldc_link.specs.declared.phase.Role.TheVariants.{Initiator, Responder}
use Rattle.ldc_queue.specs.declared.end.End.TheVariants.{A, B}
use Rattle.ldc_queue.specs.Transcript.{Utterance}
use Rattle.lane_models.specs.ClientPutting.{client_holds}
use Rattle.lane_models.specs.ClientRule.{client_rule}
use Rattle.lane_models.specs.ClientState.{ClientState}
use Rattle.lane_models.specs.DiskEvent.{DiskEvent}
use Rattle.lane_laws.specs.DiskLog.{after_transcript}
use Rattle.lane_models.specs.LaneState.{IsShape, LaneState, Shape, fresh}
use Rattle.lane_models.specs.LaneStep.{LaneStep}
use Rattle.lane_models.specs.Sayings.{half_said, heard, said}
use Rattle.lane_models.specs.Seeing.{Seen}
use Rattle.lane_models.specs.ServerPutting.{server_holds}
use Rattle.lane_models.specs.ServerRule.{server_rule}
use Rattle.lane_models.specs.ServerState.{ServerState}
use Rattle.lane_models.specs.TranscriptLog.{TranscriptLog, nothing_said}
use Rattle.lane_models.proofs.EndResting.{open_rests}
use Rattle.lane_models.proofs.EndsResting.{fresh_end_rests, rests_move, utters_of}
use Rattle.lane_models.proofs.Lifting.{transcript_turns}
use Rattle.lane_models.specs.Cuts.{CarriesOwed}
use Rattle.lane_models.specs.EndCore.{Waits}
use Rattle.lane_models.specs.Grounds.{OpenRests}
use Rattle.lane_models.specs.LaneCore.{move_of, transcript_after}
use Rattle.lane_models.specs.Standing.{EndStands}
use Rattle.lane_models.specs.Utterances.{SaysEach}
use Rattle.lane_laws.proofs.ClientMoves.{client_waits}
use Rattle.lane_laws.proofs.EndMoves.{step_a, step_b, transcript_same}
use Rattle.lane_laws.proofs.LaneStepping.{fresh_sound, sound_step}
use Rattle.lane_laws.proofs.OpeningDeal.{client_fits, server_fits}
use Rattle.lane_laws.proofs.ServerMoves.{server_waits}
use Rattle.lane_laws.specs.ChannelEnds.{client_core, core_event, server_core}
use Rattle.lane_laws.specs.LaneRests.{ClientRests, ClientUtters, LaneRests, LaneUtters, ServerRests, ServerUtters}
use Rattle.lane_laws.specs.LaneTranscripts.{transcript_behind}
use Rattle.lane_laws.specs.Sound.{ClientSound}

-- WHAT A SERVER HOLDS, where that isn't of its session, is what its handshake owes
pub server_holds_owed : (v : ServerState) (turns : List Utterance) → EndStands Responder (server_core v) turns → is_none v.handshake.owed ≡ false → 1 ≤ length v.link.to_send
    → CarriesOwed v.handshake.owed (half_said turns ++ v.link.to_send)
server_holds_owed v turns stands is some = grind arith

-- IT HOLDS a message
pub client_blocked_rests : (s : ClientState) (at : Seen) (t : ClientState) (turns : List Utterance) → ClientSound s → client_holds (client_rule s at) s ≡ Some t → ClientRests s turns → ClientRests t turns
client_blocked_rests s at t turns sound is rests = rests_move Initiator (client_core s) Waits (client_core t) turns rests (client_waits s at t sound is)

pub client_blocked_utters : (s : ClientState) (at : Seen) (t : ClientState) (turns : List Utterance) → ClientSound s → client_holds (client_rule s at) s ≡ Some t → ClientRests s turns → ClientUtters t turns
client_blocked_utters s at t turns sound is rests = utters_of Initiator (client_core t) turns (client_blocked_rests s at t turns sound is rests)

pub server_blocked_rests : (s : ServerState) (at : Seen) (t : ServerState) (turns : List Utterance) → server_holds (server_rule s at) s ≡ Some t → ServerRests s turns → ServerRests t turns
server_blocked_rests s at t turns is rests = rests_move Responder (server_core s) Waits (server_core t) turns rests (server_waits s at t is)

pub server_blocked_utters : (s : ServerState) (at : Seen) (t : ServerState) (turns : List Utterance) → server_holds (server_rule s at) s ≡ Some t → ServerRests s turns → ServerUtters t turns
server_blocked_utters s at t turns is rests = utters_of Responder (server_core t) turns (server_blocked_rests s at t turns is rests)

-- EACH EVENT
pub rests_step : (s : LaneState) (event : DiskEvent) (t : LaneState) (transcript : TranscriptLog) → ClientSound s.client → LaneRests s transcript → LaneStep s event t
    → LaneRests t (after_transcript transcript event)
rests_step s event t transcript sound rests step =
    let now : LaneRests t (transcript_after transcript (core_event event)) = record {
      client = subst (λ (turns : List Utterance). ClientRests t.client turns) (sym (transcript_turns A transcript (core_event event)))
          (rests_move Initiator (client_core s.client) (move_of A (core_event event)) (client_core t.client) transcript.a rests.client
          (step_a s event t (record { before = sound; behind = sound_step s event t sound step }) step));
      server = subst (λ (turns : List Utterance). ServerRests t.server turns) (sym (transcript_turns B transcript (core_event event)))
          (rests_move Responder (server_core s.server) (move_of B (core_event event)) (server_core t.server) transcript.b rests.server (step_b s event t step));
    } in
    subst (λ (l : TranscriptLog). LaneRests t l) (transcript_same transcript event) now

pub fresh_rests : (shape : Shape) → IsShape shape → LaneRests (fresh shape) nothing_said
fresh_rests shape sound =
    let asks = client_fits shape.blocks shape.slots sound.most_slots in
    let answers = server_fits shape.blocks shape.slots in
    record {
      client = fresh_end_rests Initiator (client_core (fresh shape).client).offer asks.form.most;
      server = fresh_end_rests Responder (server_core (fresh shape).server).offer answers.form.most;
    }

-- what both ends said, where they rest so
pub lane_utters : (s : LaneState) (transcript : TranscriptLog) → LaneRests s transcript → LaneUtters s transcript
lane_utters s transcript rests =
    record { client = utters_of Initiator (client_core s.client) transcript.a rests.client; server = utters_of Responder (server_core s.server) transcript.b rests.server }

-- ALONG EVERY RUN
pub run_rests : (shape : Shape) (events : List DiskEvent) (s : LaneState) → IsShape shape → Run LaneStep (fresh shape) events s → LaneRests s (transcript_behind events)
run_rests shape events s sound run =
    let both = (run_lawful LaneStep (λ (l : TranscriptLog) (e : DiskEvent). ⊤) after_transcript (λ (x : LaneState) (l : TranscriptLog). ClientSound x.client × LaneRests x l)
    (λ (x : LaneState) (l : TranscriptLog) (e : DiskEvent) (y : LaneState) stands step. (tt, (sound_step x e y stands.0 step, rests_step x e y l stands.0 stands.1 step)))
    (fresh shape) s nothing_said events (fresh_sound shape sound, fresh_rests shape sound) run) in
    both.1.1

pub client_open_rests : (shape : Shape) (events : List DiskEvent) (s : LaneState) → IsShape shape → Run LaneStep (fresh shape) events s → is_some s.client.session ≡ true
    → OpenRests Initiator s.client.handshake (heard (transcript_behind events).a)
client_open_rests shape events s sound run is =
    let rests = (run_rests shape events s sound run).client in
    open_rests Initiator (client_core s.client) (transcript_behind events).a (record { stands = rests.stands; rests = rests.rests }) is

pub server_open_rests : (shape : Shape) (events : List DiskEvent) (s : LaneState) → IsShape shape → Run LaneStep (fresh shape) events s → is_some s.server.session ≡ true
    → OpenRests Responder s.server.handshake (heard (transcript_behind events).b)
server_open_rests shape events s sound run is =
    let rests = (run_rests shape events s sound run).server in
    open_rests Responder (server_core s.server) (transcript_behind events).b (record { stands = rests.stands; rests = rests.rests }) is

pub client_said : (shape : Shape) (events : List DiskEvent) (s : LaneState) → IsShape shape → Run LaneStep (fresh shape) events s
    → SaysEach Initiator s.client.handshake.phase s.client.handshake.offer s.client.handshake.draft (said (transcript_behind events).a)
client_said shape events s sound run = (run_rests shape events s sound run).client.utters.said

pub server_said : (shape : Shape) (events : List DiskEvent) (s : LaneState) → IsShape shape → Run LaneStep (fresh shape) events s
    → SaysEach Responder s.server.handshake.phase s.server.handshake.offer s.server.handshake.draft (said (transcript_behind events).b)
server_said shape events s sound run = (run_rests shape events s sound run).server.utters.said
