-- What each move keeps of an end, every run keeps of both; and what each act keeps from the side of the end that acts, every run keeps where
-- nobody forged.
use Rattle.std.proofs.Common.{◌≡◌, Bool, ℕ, ◌+◌, ◌<◌, true, false, inl, inr, Option, Some, List, [], length, refl, sym, ap, ◌∙◌, subst, arith}
use Rattle.std.specs.Prelude.{slice_get, ⊤}
use Rattle.runs.specs.Lawful.{run_lawful}
use Rattle.runs.specs.Run.{Run}
use Rattle.ldc_link.specs.declared.phase.Role.{Role}
use Rattle.ldc_link.specs.declared.phase.Role.TheVariants.{Initiator, Responder}
use Rattle.ldc_link.specs.LinkState.{fresh_link}
use Rattle.ldc_queue.specs.declared.end.ChannelState.TheVariants.{Up}
use Rattle.ldc_queue.specs.declared.end.End.{End}
use Rattle.ldc_queue.specs.declared.end.End.TheVariants.{A, B}
use Rattle.ldc_queue.specs.Transcript.{Utterance}
use Rattle.vio_handshake.specs.declared.session.Offer.{Offer}
use Rattle.vio_tag.specs.declared.cause.Cause.{Cause}
use Rattle.lane_models.specs.TranscriptLog.{TranscriptLog, nothing_said, transcript_of}
use Rattle.lane_models.specs.WireEvent.{Blocked, Giver, Injected, Joined, Lost, Poked, Reset, Sent, Took, giver}
use Rattle.lane_models.specs.WireLog.{WireLog, wire_moved}
use Rattle.lane_models.proofs.Apart.{true_is_false}
use Rattle.lane_models.proofs.EndStanding.{fresh_end_stands, stands_step}
use Rattle.lane_models.specs.EndCore.{EndCore, EndMove, Stays, fresh_end}
use Rattle.lane_models.specs.EndStep.{EndAnew, EndBegins, EndHears, EndRenews, EndSays, EndStays, EndStep, EndWaits}
use Rattle.lane_models.specs.LaneCore.{Closes, CoreEvent, CoreFits, CoreStep, LaneCore, OnChannel, fresh_core, move_of, reset_move, transcript_after, transcript_behind, utterances_after, wire_after}
use Rattle.lane_models.specs.Sides.{Sides, anew, goes_on, missed, other, put, shut, sides_in, sides_of, swapped, took}
use Rattle.lane_models.specs.Standing.{EndStands}

-- THE TURNS of each end are those of its moves
pub transcript_turns : (e : End) (l : TranscriptLog) (event : CoreEvent) → transcript_of e (transcript_after l event) ≡ utterances_after (transcript_of e l) (move_of e event)
transcript_turns e l event = grind arith

-- A LAW OF ONE END, each move keeping it, is one of both ends along every run
pub record EndsAll (P : Role → EndCore → List Utterance → Type 0) (s : LaneCore) (transcript : TranscriptLog) : Type 0 where
  pub a : P Initiator s.a transcript.a
  pub b : P Responder s.b transcript.b

abbrev pub MovesKeep : (Role → EndCore → List Utterance → Type 0) → Type 0
MovesKeep P = (role : Role) (c : EndCore) (move : EndMove) (t : EndCore) (turns : List Utterance) → P role c turns → EndStep role c move t → P role t (utterances_after turns move)

pub ends_step : (P : Role → EndCore → List Utterance → Type 0) → MovesKeep P → (s : LaneCore) (event : CoreEvent) (t : LaneCore) (transcript : TranscriptLog) → EndsAll P s transcript → CoreStep s event t
    → EndsAll P t (transcript_after transcript event)
ends_step P keeps s event t transcript all step = record {
  a = subst (P Initiator t.a) (sym (transcript_turns A transcript event)) (keeps Initiator s.a (move_of A event) t.a transcript.a all.a step.a);
  b = subst (P Responder t.b) (sym (transcript_turns B transcript event)) (keeps Responder s.b (move_of B event) t.b transcript.b all.b step.b);
}

pub ends_run : (P : Role → EndCore → List Utterance → Type 0) → MovesKeep P → (entries : ℕ) (asks answers : Offer) (events : List CoreEvent) (s : LaneCore)
    → P Initiator (fresh_end Initiator asks) [] → P Responder (fresh_end Responder answers) [] → Run CoreStep (fresh_core entries asks answers) events s
    → EndsAll P s (transcript_behind events)
ends_run P keeps entries asks answers events s first second run =
    (run_lawful CoreStep (λ (l : TranscriptLog) (e : CoreEvent). ⊤) transcript_after (EndsAll P)
    (λ (x : LaneCore) (l : TranscriptLog) (e : CoreEvent) (y : LaneCore) all step. (tt, ends_step P keeps x e y l all step))
    (fresh_core entries asks answers) s nothing_said events (record { a = first; b = second }) run).1

pub stand_run : (entries : ℕ) (asks answers : Offer) (events : List CoreEvent) (s : LaneCore) → CoreFits entries asks answers
    → Run CoreStep (fresh_core entries asks answers) events s → EndsAll EndStands s (transcript_behind events)
stand_run entries asks answers events s fits run = search (ends_run, stands_step, fresh_end_stands)

-- WHAT EACH ACT KEEPS of both, from the side of the end that acts
pub record BothStand (role : Role) (s : Sides) : Type 0 where
  pub mine : EndStands role s.mine.core s.mine.utterances
  pub theirs : EndStands (other role) s.theirs.core s.theirs.utterances

pub record ActsKeep (Holds : Role → Sides → Type 0) : Type 0 where
  pub swaps : (role : Role) (s : Sides) → Holds role s → Holds (other role) (swapped s)
  pub stays : (role : Role) (s : Sides) (t : EndCore) → BothStand role s → EndStays s.mine.core t → Holds role s → Holds role (goes_on t s)
  pub waits : (role : Role) (s : Sides) (t : EndCore) → BothStand role s → EndWaits s.mine.core t → Holds role s → Holds role (goes_on t s)
  pub begins : (role : Role) (s : Sides) (t : EndCore) → BothStand role s → EndAnew role s.mine.core t → Holds role s → Holds role (anew t s)
  pub closes : (role : Role) (s : Sides) (t : EndCore) → BothStand role s → EndAnew role s.mine.core t → Holds role s → Holds role (shut t s)
  pub takes : (role : Role) (s : Sides) (t : EndCore) (packet : List ℕ) (opens : Bool) → BothStand role s → s.mine.state ≡ Up → slice_get s.mine.waiting 0 ≡ Some packet
      → EndHears role s.mine.core packet opens t → Holds role s → Holds role (took packet t s)
  pub puts : (role : Role) (s : Sides) (t : EndCore) (packet : List ℕ) (opens : Bool) → BothStand role s → s.mine.state ≡ Up → length s.theirs.waiting + 1 < s.entries
      → EndSays role s.mine.core packet opens t → Holds role s → Holds role (put packet t s)
  pub misses : (role : Role) (s : Sides) (packet : List ℕ) → BothStand role s → slice_get s.mine.waiting 0 ≡ Some packet → Holds role s → Holds role (missed s)

pub begins_anew : (role : Role) (c t : EndCore) (turns : List Utterance) → EndStands role c turns → EndBegins c t → EndAnew role c t
begins_anew role c t turns stands begins =
    record { link = begins.link ∙ ap fresh_link stands.link.role_is; handshake = inl begins.handshake; offer = begins.offer; closed = begins.closed }

pub renews_anew : (role : Role) (c t : EndCore) → EndRenews role c t → EndAnew role c t
renews_anew Initiator c t renews = record { link = renews.link; handshake = inl renews.handshake; offer = renews.offer; closed = renews.closed }
renews_anew Responder c t renews = record { link = renews.link; handshake = inr renews.handshake; offer = renews.offer; closed = renews.closed }

pub resets_anew : (g : Giver) (role : Role) (c t : EndCore) (turns : List Utterance) (cause : Cause) (packet : Option (List ℕ)) → EndStands role c turns
    → EndStep role c (reset_move g cause packet) t → EndAnew role c t
resets_anew g role c t turns cause packet stands step = grind arith

-- both ends and what holds of them, from the side of each
record Kept (Holds : Role → Sides → Type 0) (n : ℕ) (w : WireLog) (a b : EndCore) (transcript : TranscriptLog) : Type 0 where
  stand : BothStand Initiator (sides_in n w a b transcript)
  holds : Holds Initiator (sides_in n w a b transcript)

record FromB (Holds : Role → Sides → Type 0) (n : ℕ) (w : WireLog) (a b : EndCore) (transcript : TranscriptLog) : Type 0 where
  stand : BothStand Responder (swapped (sides_in n w a b transcript))
  holds : Holds Responder (swapped (sides_in n w a b transcript))

from_b : (Holds : Role → Sides → Type 0) → ActsKeep Holds → (n : ℕ) (w : WireLog) (a b : EndCore) (transcript : TranscriptLog) → Kept Holds n w a b transcript → FromB Holds n w a b transcript
from_b Holds keep n w a b transcript kept = grind arith

-- one end stays
a_stays : (Holds : Role → Sides → Type 0) → ActsKeep Holds → (n : ℕ) (w : WireLog) (a t b : EndCore) (transcript : TranscriptLog) → EndStays a t → Kept Holds n w a b transcript → Kept Holds n w t b transcript
a_stays Holds keep n w a t b transcript step kept = record {
  stand = record { mine = stands_step Initiator a Stays t transcript.a kept.stand.mine step; theirs = kept.stand.theirs };
  holds = keep.stays Initiator (sides_in n w a b transcript) t kept.stand step kept.holds;
}

b_stays : (Holds : Role → Sides → Type 0) → ActsKeep Holds → (n : ℕ) (w : WireLog) (a b t : EndCore) (transcript : TranscriptLog) → EndStays b t → Kept Holds n w a b transcript → Kept Holds n w a t transcript
b_stays Holds keep n w a b t transcript step kept =
    let seen = from_b Holds keep n w a b transcript kept in
    record {
      stand = record { mine = kept.stand.mine; theirs = stands_step Responder b Stays t transcript.b kept.stand.theirs step };
      holds = keep.swaps Responder (goes_on t (swapped (sides_in n w a b transcript))) (keep.stays Responder (swapped (sides_in n w a b transcript)) t seen.stand step seen.holds);
    }

-- AN EVENT, with the wire and the transcript after it
abbrev Behind : (Role → Sides → Type 0) → LaneCore → LaneCore → TranscriptLog → CoreEvent → Type 0
Behind Holds s t transcript event = Holds Initiator (sides_in s.entries (wire_after s.wire event) t.a t.b (transcript_after transcript event))

forged_never : (w : WireLog) (P : Type 0) → w.forged ≡ true → w.forged ≡ false → P
forged_never w P forged clean = true_is_false (sym forged ∙ clean)

event_behind : (Holds : Role → Sides → Type 0) → ActsKeep Holds → (s t : LaneCore) (transcript : TranscriptLog) (event : CoreEvent) → Kept Holds s.entries s.wire s.a s.b transcript → CoreStep s event t
    → (wire_after s.wire event).forged ≡ false → Behind Holds s t transcript event
event_behind Holds keep s t transcript (OnChannel (Joined A lost)) kept step clean =
    let k = b_stays Holds keep s.entries s.wire s.a s.b t.b transcript step.b kept in
    keep.begins Initiator (sides_in s.entries s.wire s.a t.b transcript) t.a k.stand (begins_anew Initiator s.a t.a transcript.a k.stand.mine step.a) k.holds
event_behind Holds keep s t transcript (OnChannel (Joined B lost)) kept step clean =
    let k = a_stays Holds keep s.entries s.wire s.a t.a s.b transcript step.a kept in
    let seen = from_b Holds keep s.entries s.wire t.a s.b transcript k in
    keep.swaps Responder (anew t.b (swapped (sides_in s.entries s.wire t.a s.b transcript)))
    (keep.begins Responder (swapped (sides_in s.entries s.wire t.a s.b transcript)) t.b seen.stand (begins_anew Responder s.b t.b transcript.b seen.stand.mine step.b) seen.holds)
event_behind Holds keep s t transcript (OnChannel (Reset A cause packet lost)) kept step clean =
    let k = b_stays Holds keep s.entries s.wire s.a s.b t.b transcript step.b kept in
    keep.begins Initiator (sides_in s.entries s.wire s.a t.b transcript) t.a k.stand (resets_anew (giver cause) Initiator s.a t.a transcript.a cause packet k.stand.mine step.a) k.holds
event_behind Holds keep s t transcript (OnChannel (Reset B cause packet lost)) kept step clean =
    let k = a_stays Holds keep s.entries s.wire s.a t.a s.b transcript step.a kept in
    let seen = from_b Holds keep s.entries s.wire t.a s.b transcript k in
    keep.swaps Responder (anew t.b (swapped (sides_in s.entries s.wire t.a s.b transcript)))
    (keep.begins Responder (swapped (sides_in s.entries s.wire t.a s.b transcript)) t.b seen.stand
    (resets_anew (giver cause) Responder s.b t.b transcript.b cause packet seen.stand.mine step.b) seen.holds)
event_behind Holds keep s t transcript (OnChannel (Took A packet opens)) kept step clean =
    let k = b_stays Holds keep s.entries s.wire s.a s.b t.b transcript step.b kept in
    keep.takes Initiator (sides_in s.entries s.wire s.a t.b transcript) t.a packet opens k.stand step.stands.0 step.stands.1 step.a k.holds
event_behind Holds keep s t transcript (OnChannel (Took B packet opens)) kept step clean =
    let k = a_stays Holds keep s.entries s.wire s.a t.a s.b transcript step.a kept in
    let seen = from_b Holds keep s.entries s.wire t.a s.b transcript k in
    keep.swaps Responder (took packet t.b (swapped (sides_in s.entries s.wire t.a s.b transcript)))
    (keep.takes Responder (swapped (sides_in s.entries s.wire t.a s.b transcript)) t.b packet opens seen.stand step.stands.0 step.stands.1 step.b seen.holds)
event_behind Holds keep s t transcript (OnChannel (Sent A packet opens)) kept step clean =
    let k = b_stays Holds keep s.entries s.wire s.a s.b t.b transcript step.b kept in
    keep.puts Initiator (sides_in s.entries s.wire s.a t.b transcript) t.a packet opens k.stand step.stands.0 step.stands.1 step.a k.holds
event_behind Holds keep s t transcript (OnChannel (Sent B packet opens)) kept step clean =
    let k = a_stays Holds keep s.entries s.wire s.a t.a s.b transcript step.a kept in
    let seen = from_b Holds keep s.entries s.wire t.a s.b transcript k in
    keep.swaps Responder (put packet t.b (swapped (sides_in s.entries s.wire t.a s.b transcript)))
    (keep.puts Responder (swapped (sides_in s.entries s.wire t.a s.b transcript)) t.b packet opens seen.stand step.stands.0 step.stands.1 step.b seen.holds)
event_behind Holds keep s t transcript (OnChannel (Blocked A)) kept step clean =
    let k = b_stays Holds keep s.entries s.wire s.a s.b t.b transcript step.b kept in
    keep.waits Initiator (sides_in s.entries s.wire s.a t.b transcript) t.a k.stand step.a k.holds
event_behind Holds keep s t transcript (OnChannel (Blocked B)) kept step clean =
    let k = a_stays Holds keep s.entries s.wire s.a t.a s.b transcript step.a kept in
    let seen = from_b Holds keep s.entries s.wire t.a s.b transcript k in
    keep.swaps Responder (goes_on t.b (swapped (sides_in s.entries s.wire t.a s.b transcript)))
    (keep.waits Responder (swapped (sides_in s.entries s.wire t.a s.b transcript)) t.b seen.stand step.b seen.holds)
event_behind Holds keep s t transcript (OnChannel (Lost A packet)) kept step clean =
    let k = b_stays Holds keep s.entries s.wire t.a s.b t.b transcript step.b (a_stays Holds keep s.entries s.wire s.a t.a s.b transcript step.a kept) in
    keep.misses Initiator (sides_in s.entries s.wire t.a t.b transcript) packet k.stand step.stands k.holds
event_behind Holds keep s t transcript (OnChannel (Lost B packet)) kept step clean =
    let k = b_stays Holds keep s.entries s.wire t.a s.b t.b transcript step.b (a_stays Holds keep s.entries s.wire s.a t.a s.b transcript step.a kept) in
    let seen = from_b Holds keep s.entries s.wire t.a t.b transcript k in
    keep.swaps Responder (missed (swapped (sides_in s.entries s.wire t.a t.b transcript)))
    (keep.misses Responder (swapped (sides_in s.entries s.wire t.a t.b transcript)) packet seen.stand step.stands seen.holds)
event_behind Holds keep s t transcript (OnChannel (Injected e packet)) kept step clean = absurd (forged_never (wire_moved s.wire (Injected e packet)) ⊥ refl clean)
event_behind Holds keep s t transcript (OnChannel (Poked e at bytes)) kept step clean = absurd (forged_never (wire_moved s.wire (Poked e at bytes)) ⊥ refl clean)
event_behind Holds keep s t transcript (Closes A) kept step clean =
    let k = b_stays Holds keep s.entries s.wire s.a s.b t.b transcript step.b kept in
    keep.closes Initiator (sides_in s.entries s.wire s.a t.b transcript) t.a k.stand (renews_anew Initiator s.a t.a step.a) k.holds
event_behind Holds keep s t transcript (Closes B) kept step clean =
    let k = a_stays Holds keep s.entries s.wire s.a t.a s.b transcript step.a kept in
    let seen = from_b Holds keep s.entries s.wire t.a s.b transcript k in
    keep.swaps Responder (shut t.b (swapped (sides_in s.entries s.wire t.a s.b transcript)))
    (keep.closes Responder (swapped (sides_in s.entries s.wire t.a s.b transcript)) t.b seen.stand (renews_anew Responder s.b t.b step.b) seen.holds)
event_behind Holds keep s t transcript _ kept step clean =
    (b_stays Holds keep s.entries s.wire t.a s.b t.b transcript step.b (a_stays Holds keep s.entries s.wire s.a t.a s.b transcript step.a kept)).holds

-- ALONG EVERY RUN, where nobody forged
pub record CoreHolds (Holds : Role → Sides → Type 0) (s : LaneCore) (transcript : TranscriptLog) : Type 0 where
  pub ends : EndsAll EndStands s transcript
  pub holds : s.wire.forged ≡ false → Holds Initiator (sides_of s transcript)

-- nobody had forged before
was_clean : (w : WireLog) (event : CoreEvent) → (wire_after w event).forged ≡ false → w.forged ≡ false
was_clean w event clean = grind arith

pub core_step : (Holds : Role → Sides → Type 0) → ActsKeep Holds → (s : LaneCore) (transcript : TranscriptLog) (event : CoreEvent) (t : LaneCore) → CoreHolds Holds s transcript → CoreStep s event t
    → CoreHolds Holds t (transcript_after transcript event)
core_step Holds keep s transcript event t all step = record {
  ends = ends_step EndStands (λ role c move x turns stands moves. stands_step role c move x turns stands moves) s event t transcript all.ends step;
  holds = λ clean.
      let here : (wire_after s.wire event).forged ≡ false = sym (ap (λ (w : WireLog). w.forged) step.wire) ∙ clean in
      let kept : Kept Holds s.entries s.wire s.a s.b transcript =
      record { stand = record { mine = all.ends.a; theirs = all.ends.b }; holds = all.holds (was_clean s.wire event here) } in
      subst (λ (n : ℕ). Holds Initiator (sides_in n t.wire t.a t.b (transcript_after transcript event))) (sym step.entries)
      (subst (λ (w : WireLog). Holds Initiator (sides_in s.entries w t.a t.b (transcript_after transcript event))) (sym step.wire) (event_behind Holds keep s t transcript event kept step here));
}

pub core_run : (Holds : Role → Sides → Type 0) → ActsKeep Holds → (entries : ℕ) (asks answers : Offer) (events : List CoreEvent) (s : LaneCore) → CoreFits entries asks answers
    → Holds Initiator (sides_of (fresh_core entries asks answers) nothing_said) → Run CoreStep (fresh_core entries asks answers) events s → CoreHolds Holds s (transcript_behind events)
core_run Holds keep entries asks answers events s fits first run =
    (run_lawful CoreStep (λ (l : TranscriptLog) (e : CoreEvent). ⊤) transcript_after (CoreHolds Holds)
    (λ (x : LaneCore) (l : TranscriptLog) (e : CoreEvent) (y : LaneCore) all step. (tt, core_step Holds keep x l e y all step))
    (fresh_core entries asks answers) s nothing_said events
    (record {
      ends = record { a = fresh_end_stands Initiator asks fits.asks_fit.form.most; b = fresh_end_stands Responder answers fits.answers_fit.form.most };
      holds = λ clean. first;
    }) run).1
