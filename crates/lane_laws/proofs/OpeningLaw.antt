-- Along every run each session opens in the handshake's order.
use Rattle.std.proofs.Common.{ℕ, Bool, true, false, List, ◌∷◌, map, subst, arith}
use Rattle.runs.specs.Lawful.{Lawful, log_of}
use Rattle.runs.specs.Run.{Run}
use Rattle.ldc_link.specs.declared.phase.Role.TheVariants.{Initiator, Responder}
use Rattle.ldc_queue.specs.declared.end.End.{End}
use Rattle.ldc_queue.specs.declared.end.End.TheVariants.{A, B}
use Rattle.ldc_queue.specs.Transcript.{Heard, Said}
use Rattle.lane_models.specs.HandshakeOrder.{HandshakeOrder}
use Rattle.lane_models.specs.TranscriptLog.{TranscriptLog, hears, says}
use Rattle.lane_models.specs.WireEvent.{Sent, Took}
use Rattle.lane_laws.specs.DiskLog.{after, nothing_yet}
use Rattle.lane_laws.specs.WorkLaws.{OpeningsAt, OpensRightly}
use Rattle.lane_models.specs.DiskEvent.{DiskEvent, OnWire}
use Rattle.lane_models.specs.LaneState.{IsShape, LaneState, Shape, fresh}
use Rattle.lane_models.specs.LaneStep.{LaneStep}
use Rattle.lane_models.proofs.OpeningOrder.{opens_hearing, opens_saying}
use Rattle.lane_laws.proofs.AlongRuns.{reached_lawful}
use Rattle.lane_laws.proofs.LaneChannel.{answers_of, asks_of}
use Rattle.lane_laws.proofs.LaneCores.{lane_cores, lane_fits, lane_steps, said_in_log}
use Rattle.lane_laws.specs.ChannelEnds.{core_event, core_of}

-- a lane that is reached
record At (shape : Shape) (events : List DiskEvent) (s : LaneState) : Type 0 where
  sound : IsShape shape
  run : Run LaneStep (fresh shape) events s

sent_opens : (shape : Shape) (events : List DiskEvent) (s : LaneState) (e : End) (packet : List ℕ) (opens : Bool) (t : LaneState) → At shape events s
    → LaneStep s (OnWire (Sent e packet opens)) t → OpensRightly opens e (says e packet (log_of after (nothing_yet shape) events).transcript)
sent_opens shape events s e packet false t at step = tt
sent_opens shape events s A packet true t at step =
    subst (λ (l : TranscriptLog). HandshakeOrder false Initiator (Said packet ∷ l.a)) (said_in_log shape events)
    (opens_saying shape.entries (asks_of shape) (answers_of shape) (map core_event events) (core_of s) A packet (core_of t) (lane_fits shape at.sound) (lane_cores shape events s at.sound at.run)
    (lane_steps shape events s (OnWire (Sent A packet true)) t at.sound at.run step))
sent_opens shape events s B packet true t at step =
    subst (λ (l : TranscriptLog). HandshakeOrder false Responder (Said packet ∷ l.b)) (said_in_log shape events)
    (opens_saying shape.entries (asks_of shape) (answers_of shape) (map core_event events) (core_of s) B packet (core_of t) (lane_fits shape at.sound) (lane_cores shape events s at.sound at.run)
    (lane_steps shape events s (OnWire (Sent B packet true)) t at.sound at.run step))

took_opens : (shape : Shape) (events : List DiskEvent) (s : LaneState) (e : End) (packet : List ℕ) (opens : Bool) (t : LaneState) → At shape events s
    → LaneStep s (OnWire (Took e packet opens)) t → OpensRightly opens e (hears e packet (log_of after (nothing_yet shape) events).transcript)
took_opens shape events s e packet false t at step = tt
took_opens shape events s A packet true t at step =
    subst (λ (l : TranscriptLog). HandshakeOrder false Initiator (Heard packet ∷ l.a)) (said_in_log shape events)
    (opens_hearing shape.entries (asks_of shape) (answers_of shape) (map core_event events) (core_of s) A packet (core_of t) (lane_fits shape at.sound) (lane_cores shape events s at.sound at.run)
    (lane_steps shape events s (OnWire (Took A packet true)) t at.sound at.run step))
took_opens shape events s B packet true t at step =
    subst (λ (l : TranscriptLog). HandshakeOrder false Responder (Heard packet ∷ l.b)) (said_in_log shape events)
    (opens_hearing shape.entries (asks_of shape) (answers_of shape) (map core_event events) (core_of s) B packet (core_of t) (lane_fits shape at.sound) (lane_cores shape events s at.sound at.run)
    (lane_steps shape events s (OnWire (Took B packet true)) t at.sound at.run step))

opening_at : (shape : Shape) (events : List DiskEvent) (s : LaneState) (event : DiskEvent) (t : LaneState) → At shape events s → LaneStep s event t
    → OpeningsAt (log_of after (nothing_yet shape) events) event
opening_at shape events s event t at step = grind (arith, sent_opens, took_opens)

pub openings_lawful : (shape : Shape) (events : List DiskEvent) (s : LaneState) → IsShape shape → Run LaneStep (fresh shape) events s
    → Lawful OpeningsAt after (nothing_yet shape) events
openings_lawful shape events s sound run =
    reached_lawful OpeningsAt shape (λ before x event y reached step. opening_at shape before x event y (record { sound = sound; run = reached }) step) events s run
