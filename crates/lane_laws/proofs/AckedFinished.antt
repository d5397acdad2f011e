-- On a lane that nobody forged what a client that is up has heard acknowledged the server finished.
use Rattle.std.proofs.Common.{◌≡◌, ℕ, ◌≤◌, false, Option, Some, List, [], inl, inr, sym, ap, ◌∙◌, subst, arith}
use Rattle.runs.specs.Lawful.{log_of}
use Rattle.runs.specs.Run.{Run}
use Rattle.ldc_queue.specs.declared.end.ChannelState.TheVariants.{Up}
use Rattle.ldc_queue.specs.declared.end.End.TheVariants.{A}
use Rattle.ldc_queue.specs.OneStream.{IsFront}
use Rattle.lane_laws.specs.Agreement.{ClientAgrees, ServerAgrees}
use Rattle.lane_models.specs.ClientState.{ClientSession}
use Rattle.lane_models.specs.DiskEvent.{DiskEvent}
use Rattle.lane_laws.specs.DiskLog.{DiskLog, after, nothing_yet}
use Rattle.lane_models.specs.LaneState.{IsShape, LaneState, Shape, fresh}
use Rattle.lane_models.specs.LaneStep.{LaneStep}
use Rattle.lane_models.specs.Sayings.{heard, said}
use Rattle.lane_models.specs.ServerState.{ServerSession, Work}
use Rattle.lane_models.specs.TranscriptLog.{TranscriptLog}
use Rattle.lane_models.specs.WireLog.{WireLog}
use Rattle.lane_laws.specs.WorkLaws.{IfServer}
use Rattle.lane_laws.specs.WorkLog.{ClientCounts, ServerCounts}
use Rattle.lane_laws.proofs.Agreeing.{front_sum}
use Rattle.lane_laws.proofs.LaneCores.{transcript_is}
use Rattle.lane_laws.proofs.HeardFront.{heard_messages, unheard_client}
use Rattle.lane_laws.proofs.LaneCounting.{Knows, run_knows}
use Rattle.lane_models.proofs.HandshakesPlaced.{up_or}
use Rattle.lane_laws.specs.Counted.{ServerOrder, acked_of, announced_of, range_sum}
use Rattle.lane_laws.specs.LaneTranscripts.{transcript_behind}
use Rattle.lane_laws.specs.SlotsInOrder.{ServerAt}

-- the log's counts are the session's
pub record SameRanges (o : Option ClientSession) (k : ClientCounts) : Type 0 where
  pub announced : k.announced ≡ announced_of o
  pub acked : k.acked ≡ acked_of o

pub same_ranges : (o : Option ClientSession) (done : ℕ) (q : Option ClientCounts) (k : ClientCounts) → q ≡ Some k → ClientAgrees o done q → SameRanges o k
same_ranges o done q k is agrees = grind arith

answered_most : (slots : ℕ) (o : Option ServerSession) (w : Option Work) (q : Option ServerCounts) (transcript : TranscriptLog) (finished descs : ℕ) → ServerOrder slots o q transcript.b → ServerAgrees o w q
    → IfServer q (λ d. (finished ≡ d.finished) × (descs ≡ d.descs)) → range_sum slots 2 (said transcript.b) ≤ finished
answered_most slots o w q transcript finished descs order agrees works = grind arith

pub acked_finished : (shape : Shape) (events : List DiskEvent) (s : LaneState) (k : ClientCounts) (finished descs : ℕ) → IsShape shape → Run LaneStep (fresh shape) events s
    → (log_of after (nothing_yet shape) events).wire.forged ≡ false → (log_of after (nothing_yet shape) events).work.client ≡ Some k
    → (log_of after (nothing_yet shape) events).wire.wire.end_a ≡ Up
    → ServerAt (log_of after (nothing_yet shape) events).wire.wire (log_of after (nothing_yet shape) events).work.server finished descs → k.acked ≤ finished
acked_finished shape events s k finished descs sound run clean is up at =
    let l : DiskLog = log_of after (nothing_yet shape) events in
    let knows : Knows s l = run_knows shape events s sound run in
    let wire = knows.all.stands.wire in
    let transcript : l.transcript ≡ transcript_behind events = transcript_is (nothing_yet shape) events in
    let clean_s : s.wire.forged ≡ false = ap (λ (w : WireLog). w.forged) wire ∙ clean in
    let up_s : s.wire.wire.end_a ≡ Up = ap (λ (w : WireLog). w.wire.end_a) wire ∙ up in
    let acked : k.acked ≡ range_sum l.shape.slots 2 (heard l.transcript.a) =
    (same_ranges s.client.session l.work.done l.work.client k is knows.counted.client.agrees).acked ∙ knows.counted.client.acked in
    elim (up_or s.wire.wire.end_b) [
      | inl b ↦
          let front : IsFront (heard l.transcript.a) (said l.transcript.b) =
          subst (λ (t : TranscriptLog). IsFront (heard t.a) (said t.b)) (sym transcript) (heard_messages shape events s A sound run clean_s up_s) in
          let up_b : l.wire.wire.end_b ≡ Up = ap (λ (w : WireLog). w.wire.end_b) (sym wire) ∙ b in
          omega (
            arith,
            acked,
            front_sum l.shape.slots 2 (heard l.transcript.a) (said l.transcript.b) front,
            answered_most l.shape.slots s.server.session s.server.work l.work.server l.transcript finished descs knows.counted.server.order knows.counted.server.agrees (at.works up_b),
          )
      | inr not ↦
          let none : heard l.transcript.a ≡ [] = ap (λ (t : TranscriptLog). heard t.a) transcript ∙ unheard_client shape events s sound run clean_s up_s not in
          omega (arith, acked, ap (range_sum l.shape.slots 2) none)
    ]
