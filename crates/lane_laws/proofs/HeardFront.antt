-- What an end heard is a front of what the other said, on a lane that nobody forged.
use Rattle.std.proofs.Common.{◌≡◌, false, List, [], map, subst}
use Rattle.runs.specs.Run.{Run}
use Rattle.ldc_link.specs.declared.phase.Role.TheVariants.{Initiator}
use Rattle.ldc_queue.specs.declared.end.ChannelState.TheVariants.{Up}
use Rattle.ldc_queue.specs.declared.end.End.{End}
use Rattle.ldc_queue.specs.declared.end.End.TheVariants.{A, B}
use Rattle.ldc_queue.specs.OneStream.{IsFront}
use Rattle.ldc_queue.specs.Transcript.{numbered_heard, numbered_said}
use Rattle.ldc_queue.specs.Wire.{peer_of}
use Rattle.lane_models.specs.Sayings.{heard, said}
use Rattle.lane_models.specs.TranscriptLog.{TranscriptLog, transcript_of}
use Rattle.lane_models.specs.WireAt.{IsUp}
use Rattle.lane_models.specs.DiskEvent.{DiskEvent}
use Rattle.lane_models.specs.LaneState.{IsShape, LaneState, Shape, fresh}
use Rattle.lane_models.specs.LaneStep.{LaneStep}
use Rattle.lane_models.proofs.ConversingRuns as core
use Rattle.lane_models.proofs.CoreLaws.{conversing}
use Rattle.lane_models.proofs.Sessions.{open_sessions_up}
use Rattle.lane_models.specs.Conversing.{Converse}
use Rattle.lane_models.specs.Sides.{sides_of}
use Rattle.lane_laws.proofs.LaneChannel.{answers_of, asks_of}
use Rattle.lane_laws.proofs.LaneCores.{lane_cores, lane_fits, said_same}
use Rattle.lane_laws.specs.ChannelEnds.{core_event, core_of}
use Rattle.lane_laws.specs.LaneTranscripts.{transcript_behind}
use Rattle.std.specs.Prelude.{is_some, true}

pub heard_packets : (shape : Shape) (events : List DiskEvent) (s : LaneState) (e : End) → IsShape shape → Run LaneStep (fresh shape) events s
    → s.wire.forged ≡ false → IsUp e s.wire.wire → IsFront (numbered_heard (transcript_of e (transcript_behind events))) (numbered_said (transcript_of (peer_of e) (transcript_behind events)))
heard_packets shape events s e sound run clean up =
    subst (λ (l : TranscriptLog). IsFront (numbered_heard (transcript_of e l)) (numbered_said (transcript_of (peer_of e) l))) (said_same events)
    (core.heard_packets shape.entries (asks_of shape) (answers_of shape) (map core_event events) (core_of s) e (lane_fits shape sound) (lane_cores shape events s sound run) clean up)

pub heard_messages : (shape : Shape) (events : List DiskEvent) (s : LaneState) (e : End) → IsShape shape → Run LaneStep (fresh shape) events s
    → s.wire.forged ≡ false → IsUp e s.wire.wire → IsFront (heard (transcript_of e (transcript_behind events))) (said (transcript_of (peer_of e) (transcript_behind events)))
heard_messages shape events s e sound run clean up =
    subst (λ (l : TranscriptLog). IsFront (heard (transcript_of e l)) (said (transcript_of (peer_of e) l))) (said_same events)
    (core.heard_messages shape.entries (asks_of shape) (answers_of shape) (map core_event events) (core_of s) e (lane_fits shape sound) (lane_cores shape events s sound run) clean up)

-- both directions are one stream each
pub lane_converses : (shape : Shape) (events : List DiskEvent) (s : LaneState) → IsShape shape → Run LaneStep (fresh shape) events s → s.wire.forged ≡ false
    → Converse Initiator (sides_of (core_of s) (transcript_behind events))
lane_converses shape events s sound run clean =
    subst (λ (l : TranscriptLog). Converse Initiator (sides_of (core_of s) l)) (said_same events)
    (conversing shape.entries (asks_of shape) (answers_of shape) (map core_event events) (core_of s) (lane_fits shape sound) (lane_cores shape events s sound run) clean)

-- WHERE THE OTHER END ISN'T UP nothing was heard
pub unheard_client : (shape : Shape) (events : List DiskEvent) (s : LaneState) → IsShape shape → Run LaneStep (fresh shape) events s → s.wire.forged ≡ false
    → IsUp A s.wire.wire → (s.wire.wire.end_b ≡ Up → ⊥) → heard (transcript_behind events).a ≡ []
unheard_client shape events s sound run clean up not =
    core.unheard Initiator (sides_of (core_of s) (transcript_behind events)) (lane_converses shape events s sound run clean) up not

-- BOTH ARE UP where both sessions are open
pub both_up : (shape : Shape) (events : List DiskEvent) (s : LaneState) → IsShape shape → Run LaneStep (fresh shape) events s → s.wire.forged ≡ false
    → is_some s.client.session ≡ true → is_some s.server.session ≡ true → IsUp A s.wire.wire × IsUp B s.wire.wire
both_up shape events s sound run clean client server =
    open_sessions_up shape.entries (asks_of shape) (answers_of shape) (map core_event events) (core_of s) (lane_fits shape sound) (lane_cores shape events s sound run) clean client server
