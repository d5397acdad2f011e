-- Along every run, what resets an end says why.
use Rattle.std.proofs.Common.{◌≡◌, ℕ, Option, None, List, sym, subst}
use Rattle.runs.specs.Lawful.{Lawful, run_lawful}
use Rattle.runs.specs.Run.{Run}
use Rattle.ldc_queue.specs.declared.end.End.{End}
use Rattle.ldc_queue.specs.declared.end.End.TheVariants.{A, B}
use Rattle.ldc_queue.specs.Transcript.{Utterance}
use Rattle.vio_tag.specs.declared.cause.Cause.{Cause}
use Rattle.vio_tag.specs.declared.cause.Cause.TheVariants as the_cause
use Rattle.lane_models.specs.ResetSays.{WireResetAt}
use Rattle.lane_models.specs.TranscriptLog.{TranscriptLog, transcript_of}
use Rattle.lane_models.specs.WireAt.{WireGapAt}
use Rattle.lane_models.specs.WireEvent.{Reset, WireEvent}
use Rattle.lane_laws.specs.DiskLog.{DiskLog, after, after_transcript, nothing_yet}
use Rattle.lane_models.specs.ClientRule.{client_rule}
use Rattle.lane_models.specs.DiskEvent.{DiskEvent, OnWire}
use Rattle.lane_models.specs.LaneState.{IsShape, LaneState, Shape, fresh}
use Rattle.lane_models.specs.LaneStep.{EndOnWire, LaneStep, WireStep, reach}
use Rattle.lane_models.specs.Seeing.{seen}
use Rattle.lane_models.specs.ServerRule.{server_rule}
use Rattle.lane_laws.proofs.Speaking.{fresh_rests, rests_step}
use Rattle.lane_laws.proofs.LaneStepping.{fresh_sound, sound_step}
use Rattle.lane_laws.specs.LaneRests.{LaneRests}
use Rattle.lane_laws.proofs.EndResets.{WhyReset, client_fails, server_fails}
use Rattle.lane_laws.specs.Laws.{GapAt, ResetAt}
use Rattle.lane_laws.specs.Sound.{ClientSound}
use Rattle.lane_laws.proofs.StandingRuns.{lawful_by}

abbrev pub Stands : LaneState → TranscriptLog → Type 0
Stands s transcript = ClientSound s.client × LaneRests s transcript

-- a reset that no step gave
asked_why : (turns : List Utterance) (cause : Cause) (packet : Option (List ℕ)) → packet ≡ None → WhyReset turns None cause → WhyReset turns packet cause
asked_why turns cause packet is why = subst (λ (p : Option (List ℕ)). WhyReset turns p cause) (sym is) why

end_why : (e : End) (s : LaneState) (transcript : TranscriptLog) (cause : Cause) (packet : Option (List ℕ)) (lost : ℕ) (t : LaneState) → Stands s transcript → EndOnWire e s (Reset e cause packet lost) t
    → WhyReset (transcript_of e transcript) packet cause
end_why A s transcript cause packet lost t stands step =
    client_fails transcript.a (client_rule s.client (seen A s.shape.entries s.wire.wire)) s.client s.memory cause packet stands.1.client.stands.link.follows stands.1.client.whole step.step.0
end_why B s transcript cause packet lost t stands step =
    server_fails transcript.b (server_rule s.server (seen B s.shape.entries s.wire.wire)) s.server (reach s (seen B s.shape.entries s.wire.wire).both) cause packet t.memory
    stands.1.server.stands.link.follows stands.1.server.whole step.1.step.1.0

-- the causes of those who give a reset
pub by_giver : (e : End) (s : LaneState) (transcript : TranscriptLog) (cause : Cause) (packet : Option (List ℕ)) (lost : ℕ) (t : LaneState) → Stands s transcript → WireStep s (Reset e cause packet lost) t
    → WhyReset (transcript_of e transcript) packet cause
by_giver A s transcript the_cause.Asked packet lost t stands step = asked_why transcript.a the_cause.Asked packet step.0 (record { says = tt; gap = tt; carried = tt })
by_giver B s transcript the_cause.Asked packet lost t stands step = asked_why transcript.b the_cause.Asked packet step.1.0 (record { says = tt; gap = tt; carried = tt })
by_giver A s transcript the_cause.Restart packet lost t stands step = absurd step
by_giver B s transcript the_cause.Restart packet lost t stands step = asked_why transcript.b the_cause.Restart packet step.1.0 (record { says = tt; gap = tt; carried = tt })
by_giver A s transcript the_cause.Tick packet lost t stands step = asked_why transcript.a the_cause.Tick packet step.1.0 (record { says = tt; gap = tt; carried = tt })
by_giver B s transcript the_cause.Tick packet lost t stands step = absurd step
by_giver e s transcript cause packet lost t stands step = end_why e s transcript cause packet lost t stands step

-- both laws of an event
pub record SaysAt (transcript : TranscriptLog) (event : WireEvent) : Type 0 where
  pub says : WireResetAt transcript event
  pub gap : WireGapAt transcript event

wire_says : (s : LaneState) (transcript : TranscriptLog) (event : WireEvent) (t : LaneState) → Stands s transcript → WireStep s event t → SaysAt transcript event
wire_says s transcript (Reset e cause packet lost) t stands step =
    let why = by_giver e s transcript cause packet lost t stands step in record { says = why.says; gap = why.gap }
wire_says s transcript _ t stands step = record { says = tt; gap = tt }

says_at : (s : LaneState) (l : DiskLog) (event : DiskEvent) (t : LaneState) → Stands s l.transcript → LaneStep s event t → ResetAt l event × GapAt l event
says_at s l (OnWire event) t stands step = let says = wire_says s l.transcript event t stands step in (says.says, says.gap)
says_at s l _ t stands step = (tt, tt)

stands_step : (s : LaneState) (transcript : TranscriptLog) (event : DiskEvent) (t : LaneState) → Stands s transcript → LaneStep s event t → Stands t (after_transcript transcript event)
stands_step s transcript event t (sound, rests) step = (sound_step s event t sound step, rests_step s event t transcript sound rests step)

all_lawful : (shape : Shape) (events : List DiskEvent) (s : LaneState) → IsShape shape → Run LaneStep (fresh shape) events s
    → Lawful (λ (l : DiskLog) (e : DiskEvent). ResetAt l e × GapAt l e) after (nothing_yet shape) events
all_lawful shape events s sound run =
    (run_lawful LaneStep (λ (l : DiskLog) (e : DiskEvent). ResetAt l e × GapAt l e) after (λ (x : LaneState) (l : DiskLog). Stands x l.transcript)
    (λ (x : LaneState) (l : DiskLog) (e : DiskEvent) (y : LaneState) stands step. (says_at x l e y stands step, stands_step x l.transcript e y stands step))
    (fresh shape) s (nothing_yet shape) events (fresh_sound shape sound, fresh_rests shape sound) run).0

pub resets_lawful : (shape : Shape) (events : List DiskEvent) (s : LaneState) → IsShape shape → Run LaneStep (fresh shape) events s → Lawful ResetAt after (nothing_yet shape) events
resets_lawful shape events s sound run =
    lawful_by (λ (l : DiskLog) (e : DiskEvent). ResetAt l e × GapAt l e) ResetAt (λ l e both. both.0) (nothing_yet shape) events (all_lawful shape events s sound run)

pub gaps_lawful : (shape : Shape) (events : List DiskEvent) (s : LaneState) → IsShape shape → Run LaneStep (fresh shape) events s → Lawful GapAt after (nothing_yet shape) events
gaps_lawful shape events s sound run =
    lawful_by (λ (l : DiskLog) (e : DiskEvent). ResetAt l e × GapAt l e) GapAt (λ l e both. both.1) (nothing_yet shape) events (all_lawful shape events s sound run)
