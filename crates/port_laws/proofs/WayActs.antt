-- What a step of an end leaves of what is on the way, by its answer.
use Rattle.std.proofs.Common.{◌≡◌, ℕ, ◌+◌, ◌≤◌, true, false, Option, Some, None, List, ◌∷◌, sym, subst, arith}
use Rattle.std.specs.Prelude.{⊤}
use Rattle.ldc_queue.specs.OneStream.{IsFront}
use Rattle.ldc_queue.specs.Transcript.{Heard, Said, Utterance}
use Rattle.lane_models.specs.Messages.{ended_by, opening_sid}
use Rattle.lane_models.specs.Sayings.{half_heard, half_said, heard, said}
use Rattle.lane_models.specs.EndLog.{EndLog, SessionLog, change, heard_in, more_published, more_taken, opened_log, said_in}
use Rattle.lane_models.specs.NetEndStep.{Blocked, Frame, Idle, Joined, NetAnswer, Published, Reset, Sent, Took}
use Rattle.lane_models.specs.PortLog.{after_answer}
use Rattle.port_laws.specs.WaysStand.{Ways, or_new}
use Rattle.port_laws.proofs.RingEvents.{Goes, utterances_now}
use Rattle.port_laws.proofs.SessionsHeard.{heard_grown, said_grown}
use Rattle.port_laws.proofs.WayMoves.{Plain, RightIn, frame_ways, hears_plain, hears_ways, plain_rest, published_ways, same_answers, same_asks, says_plain, says_ways, ways_as}

-- IN SESSION
abbrev pub AnswerFits : ℕ → List Utterance → List Utterance → SessionLog → SessionLog → NetAnswer → Type 0
AnswerFits slots turns others v w (Sent packet opens) = (opens ≡ false) × ((groups : List (List ℕ)) × RightIn slots groups v (ended_by (half_said turns) packet))
AnswerFits slots turns others v w (Took packet opens) = (opens ≡ false) × IsFront (heard (Heard packet ∷ turns)) (said others) × (w.taken ≤ v.seen + slots)
AnswerFits slots turns others v w (Frame frame) = v.asked ≡ v.acks + 1
AnswerFits slots turns others v w _ = ⊤

abbrev Between : ℕ → List Utterance → List Utterance → SessionLog → SessionLog → Type 0
Between slots turns others v w = Ways slots (said turns) (heard turns) (said others) (heard others) v w

pub open_acts : (slots : ℕ) (turns others : List Utterance) (answer : NetAnswer) (l : EndLog) (v w : SessionLog) → l.session ≡ Some v → 1 ≤ slots → Goes answer
    → AnswerFits slots turns others v w answer → Between slots turns others v w → Between slots (utterances_now answer turns) others (or_new (after_answer slots turns answer l).session) w
open_acts slots turns others (Sent packet true) l v w is some goes fits ways = let wrong : true ≡ false = fits.0 in absurd (cc wrong)
open_acts slots turns others (Sent packet false) l v w is some goes fits ways =
    let ended = ended_by (half_said turns) packet in
    subst (λ (o : Option SessionLog). Between slots (Said packet ∷ turns) others (or_new (change (said_in ended) o)) w) (sym is)
    (says_ways slots ended (said turns) (said (Said packet ∷ turns)) (heard turns) (said others) (heard others) fits.1.0 v w ways (said_grown turns packet) fits.1.1)
open_acts slots turns others (Took packet true) l v w is some goes fits ways = let wrong : true ≡ false = fits.0 in absurd (cc wrong)
open_acts slots turns others (Took packet false) l v w is some goes fits ways =
    let ended = ended_by (half_heard turns) packet in
    subst (λ (o : Option SessionLog). Between slots (Heard packet ∷ turns) others (or_new (change (heard_in slots ended) o)) w) (sym is)
    (hears_ways slots ended (said turns) (heard turns) (heard (Heard packet ∷ turns)) (said others) (heard others) fits.1.0 v w some fits.2 ways (heard_grown turns packet) fits.1.1)
open_acts slots turns others Blocked l v w is some goes fits ways = subst (λ (o : Option SessionLog). Between slots turns others (or_new o) w) (sym is) ways
open_acts slots turns others Idle l v w is some goes fits ways = subst (λ (o : Option SessionLog). Between slots turns others (or_new o) w) (sym is) ways
open_acts slots turns others (Published id) l v w is some goes fits ways = rw is (published_ways _ _ _ _ _ v w ways)
open_acts slots turns others (Frame frame) l v w is some goes fits ways = rw is (frame_ways _ _ _ _ _ v w fits ways)
open_acts slots turns others (Joined lost) l v w is some goes fits ways = absurd goes
open_acts slots turns others (Reset cause packet lost) l v w is some goes fits ways = absurd goes

-- BEFORE ITS SESSION, and as it opens
pub record ClosedFits (turns others : List Utterance) (answer : NetAnswer) : Type 0 where
  pub said_plain : Plain (said (utterances_now answer turns))
  pub heard_plain : Plain (heard (utterances_now answer turns))
  pub front : IsFront (heard (utterances_now answer turns)) (said others)

new_again : (slots sid : ℕ) (turns others : List Utterance) (w : SessionLog) → Between slots turns others (opened_log 0) w → Between slots turns others (opened_log sid) w
new_again slots sid turns others w ways = grind (arith, ways_as, same_asks, same_answers)

pub closed_acts : (slots : ℕ) (turns others : List Utterance) (answer : NetAnswer) (l : EndLog) (w : SessionLog) → l.session ≡ None → Goes answer → ClosedFits turns others answer
    → Between slots turns others (opened_log 0) w → Between slots (utterances_now answer turns) others (or_new (after_answer slots turns answer l).session) w
closed_acts slots turns others (Sent packet true) l w is goes fits ways =
    new_again slots (opening_sid (half_said turns) packet) (Said packet ∷ turns) others w
    (says_plain slots (ended_by (half_said turns) packet) (said turns) (said (Said packet ∷ turns)) (heard turns) (said others) (heard others) (opened_log 0) w ways (said_grown turns packet) fits.said_plain)
closed_acts slots turns others (Sent packet false) l w is goes fits ways =
    subst (λ (o : Option SessionLog). Between slots (Said packet ∷ turns) others (or_new (change (said_in (ended_by (half_said turns) packet)) o)) w) (sym is)
    (says_plain slots (ended_by (half_said turns) packet) (said turns) (said (Said packet ∷ turns)) (heard turns) (said others) (heard others) (opened_log 0) w ways (said_grown turns packet) fits.said_plain)
closed_acts slots turns others (Took packet true) l w is goes fits ways =
    new_again slots (opening_sid (half_heard turns) packet) (Heard packet ∷ turns) others w
    (hears_plain slots (ended_by (half_heard turns) packet) (said turns) (heard turns) (heard (Heard packet ∷ turns)) (said others) (heard others) fits.front.0 (opened_log 0) w ways (heard_grown turns packet)
    fits.front.1 fits.heard_plain)
closed_acts slots turns others (Took packet false) l w is goes fits ways =
    subst (λ (o : Option SessionLog). Between slots (Heard packet ∷ turns) others (or_new (change (heard_in slots (ended_by (half_heard turns) packet)) o)) w) (sym is)
    (hears_plain slots (ended_by (half_heard turns) packet) (said turns) (heard turns) (heard (Heard packet ∷ turns)) (said others) (heard others) fits.front.0 (opened_log 0) w ways (heard_grown turns packet)
    fits.front.1 fits.heard_plain)
closed_acts slots turns others (Published id) l w is goes fits ways = subst (λ (o : Option SessionLog). Between slots turns others (or_new (change more_published o)) w) (sym is) ways
closed_acts slots turns others (Frame frame) l w is goes fits ways = subst (λ (o : Option SessionLog). Between slots turns others (or_new (change more_taken o)) w) (sym is) ways
closed_acts slots turns others (Joined lost) l w is goes fits ways = absurd goes
closed_acts slots turns others (Reset cause packet lost) l w is goes fits ways = absurd goes
closed_acts slots turns others _ l w is goes fits ways = subst (λ (o : Option SessionLog). Between slots turns others (or_new o) w) (sym is) ways

-- THE FIRST SESSION of both opens, with nothing on the way
pub first_ways : (slots sid : ℕ) (turns others : List Utterance) → IsFront (heard turns) (said others) → IsFront (heard others) (said turns) → Plain (said turns) → Plain (said others)
    → Between slots turns others (opened_log sid) (opened_log 0)
first_ways slots sid turns others comes goes mine theirs = grind (arith, plain_rest)
