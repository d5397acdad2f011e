-- A disk's lane is two ends on a channel: each of its steps is one of theirs, and each run.
use Rattle.std.proofs.Common.{◌≡◌, List, [], ◌∷◌, refl, sym, ap, ◌∙◌, subst, arith, map}
use Rattle.runs.specs.Lawful.{log_of, run_lawful}
use Rattle.runs.specs.Run.{Run}
use Rattle.lane_models.specs.TranscriptLog.{TranscriptLog, nothing_said}
use Rattle.lane_models.specs.WireLog.{WireLog}
use Rattle.lane_models.specs.DiskEvent.{DiskEvent}
use Rattle.lane_laws.specs.DiskLog.{DiskLog, after, after_transcript, after_wire, nothing_yet}
use Rattle.lane_models.specs.LaneState.{IsShape, LaneState, Shape, fresh}
use Rattle.lane_models.specs.LaneStep.{LaneStep}
use Rattle.lane_models.specs.Offering.{client_offer, server_offer}
use Rattle.lane_models.specs.LaneCore.{CoreFits, CoreStands, CoreStep, fresh_core, transcript_after, transcript_behind}
use Rattle.lane_laws.proofs.OpeningDeal.{client_fits, server_fits}
use Rattle.lane_laws.proofs.TableRuns.{QueuesStand, core_stands, fresh_queues, queues_step, wire_same}
use Rattle.lane_laws.specs.ChannelEnds.{core_event, core_of}
use Rattle.lane_laws.specs.LaneTranscripts as lane
use Rattle.lane_laws.specs.TableStands.{MayOfTable}
use Rattle.lane_laws.proofs.EndMoves.{step_a, step_b, transcript_same}

-- EACH STEP
lane_core_step : (s : LaneState) (l : DiskLog) (event : DiskEvent) (t : LaneState) → QueuesStand s l → LaneStep s event t
    → CoreStep (core_of s) (core_event event) (core_of t) × QueuesStand t (after l event)
lane_core_step s l event t stands step =
    let more = queues_step s l event t stands step in
    let before = stands.all.stands in
    let behind = more.1.all.stands in
    let at_log : CoreStands l.shape.entries l.wire (core_event event) = core_stands l event more.0 in (
      record {
        entries = ap (λ (x : Shape). x.entries) (behind.shape ∙ sym before.shape);
        stands = subst (λ (x : Shape). CoreStands x.entries s.wire (core_event event)) (sym before.shape)
            (subst (λ (w : WireLog). CoreStands l.shape.entries w (core_event event)) (sym before.wire) at_log);
        wire = behind.wire ∙ ap (λ (w : WireLog). after_wire w event) (sym before.wire) ∙ wire_same s.wire event;
        a = step_a s event t (record { before = stands.all.sound; behind = more.1.all.sound }) step;
        b = step_b s event t step;
      },
      more.1,
    )

-- EACH RUN
runs_on : (s u : LaneState) (l : DiskLog) (events : List DiskEvent) → QueuesStand s l → Run LaneStep s events u → Run CoreStep (core_of s) (map core_event events) (core_of u)
runs_on s u l [] stands run = ap core_of run
runs_on s u l (event ∷ events) stands run =
    let first = lane_core_step s l event run.0 stands run.1 in
    (core_of run.0, first.0, runs_on run.0 u (after l event) events first.1 run.2)

abbrev pub Cores : Shape → List DiskEvent → LaneState → Type 0
Cores shape events s =
    Run CoreStep (fresh_core shape.entries (client_offer shape.blocks shape.slots) (server_offer shape.blocks shape.slots)) (map core_event events) (core_of s)

pub lane_cores : (shape : Shape) (events : List DiskEvent) (s : LaneState) → IsShape shape → Run LaneStep (fresh shape) events s → Cores shape events s
lane_cores shape events s sound run = runs_on (fresh shape) s (nothing_yet shape) events (fresh_queues shape sound) run

pub lane_steps : (shape : Shape) (events : List DiskEvent) (s : LaneState) (event : DiskEvent) (t : LaneState) → IsShape shape → Run LaneStep (fresh shape) events s → LaneStep s event t
    → CoreStep (core_of s) (core_event event) (core_of t)
lane_steps shape events s event t sound run step =
    let stands : QueuesStand s (log_of after (nothing_yet shape) events) =
    (run_lawful LaneStep MayOfTable after QueuesStand queues_step (fresh shape) s (nothing_yet shape) events (fresh_queues shape sound) run).1 in
    (lane_core_step s (log_of after (nothing_yet shape) events) event t stands step).0

-- what its ends offer fits
pub lane_fits : (shape : Shape) → IsShape shape → CoreFits shape.entries (client_offer shape.blocks shape.slots) (server_offer shape.blocks shape.slots)
lane_fits shape sound = record {
  some_entries = omega (arith, sound.some_entries);
  most_entries = sound.most_entries;
  asks_fit = client_fits shape.blocks shape.slots sound.most_slots;
  answers_fit = server_fits shape.blocks shape.slots;
}

-- WHAT WAS SAID AND HEARD is the same
transcripts_same : (l : TranscriptLog) (events : List DiskEvent) → log_of transcript_after l (map core_event events) ≡ log_of after_transcript l events
transcripts_same l [] = refl
transcripts_same l (event ∷ events) =
    ap (λ (x : TranscriptLog). log_of transcript_after x (map core_event events)) (transcript_same l event) ∙ transcripts_same (after_transcript l event) events

pub said_same : (events : List DiskEvent) → transcript_behind (map core_event events) ≡ lane.transcript_behind events
said_same events = transcripts_same nothing_said events

-- the shape of a log stays
pub shape_of : (l : DiskLog) (events : List DiskEvent) → (log_of after l events).shape ≡ l.shape
shape_of l [] = refl
shape_of l (event ∷ events) = shape_of (after l event) events

pub transcript_is : (l : DiskLog) (events : List DiskEvent) → (log_of after l events).transcript ≡ log_of after_transcript l.transcript events
transcript_is l [] = refl
transcript_is l (event ∷ events) = transcript_is (after l event) events

pub said_in_log : (shape : Shape) (events : List DiskEvent) → transcript_behind (map core_event events) ≡ (log_of after (nothing_yet shape) events).transcript
said_in_log shape events = said_same events ∙ sym (transcript_is (nothing_yet shape) events)
