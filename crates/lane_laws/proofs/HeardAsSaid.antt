-- On a lane that nobody forged each message that an end heard is as the other's handshake has it.
use Rattle.std.proofs.Common.{◌≡◌, false, List, map, subst}
use Rattle.runs.specs.Run.{Run}
use Rattle.ldc_link.specs.declared.phase.Role.TheVariants.{Initiator, Responder}
use Rattle.ldc_queue.specs.declared.end.End.TheVariants.{A, B}
use Rattle.lane_models.specs.Sayings.{heard}
use Rattle.lane_models.specs.TranscriptLog.{TranscriptLog}
use Rattle.lane_models.specs.WireAt.{IsUp}
use Rattle.lane_models.specs.DiskEvent.{DiskEvent}
use Rattle.lane_models.specs.LaneState.{IsShape, LaneState, Shape, fresh}
use Rattle.lane_models.specs.LaneStep.{LaneStep}
use Rattle.lane_models.proofs.Sessions.{heard_as_said}
use Rattle.lane_models.specs.Utterances.{SaysEach}
use Rattle.lane_laws.proofs.LaneChannel.{answers_of, asks_of}
use Rattle.lane_laws.proofs.LaneCores.{lane_cores, lane_fits, said_same}
use Rattle.lane_laws.specs.ChannelEnds.{core_event, core_of}
use Rattle.lane_laws.specs.LaneTranscripts.{transcript_behind}

pub client_heard : (shape : Shape) (events : List DiskEvent) (s : LaneState) → IsShape shape → Run LaneStep (fresh shape) events s
    → s.wire.forged ≡ false → IsUp A s.wire.wire
    → SaysEach Responder s.server.handshake.phase s.server.handshake.offer s.server.handshake.draft (heard (transcript_behind events).a)
client_heard shape events s sound run clean up =
    subst (λ (l : TranscriptLog). SaysEach Responder s.server.handshake.phase s.server.handshake.offer s.server.handshake.draft (heard l.a)) (said_same events)
    (heard_as_said shape.entries (asks_of shape) (answers_of shape) (map core_event events) (core_of s) A (lane_fits shape sound) (lane_cores shape events s sound run) clean up)

pub server_heard : (shape : Shape) (events : List DiskEvent) (s : LaneState) → IsShape shape → Run LaneStep (fresh shape) events s
    → s.wire.forged ≡ false → IsUp B s.wire.wire
    → SaysEach Initiator s.client.handshake.phase s.client.handshake.offer s.client.handshake.draft (heard (transcript_behind events).b)
server_heard shape events s sound run clean up =
    subst (λ (l : TranscriptLog). SaysEach Initiator s.client.handshake.phase s.client.handshake.offer s.client.handshake.draft (heard l.b)) (said_same events)
    (heard_as_said shape.entries (asks_of shape) (answers_of shape) (map core_event events) (core_of s) B (lane_fits shape sound) (lane_cores shape events s sound run) clean up)
