-- Where both sessions are open and nobody forged, both ends are up, what each heard is as the other has it, and the sessions are one.
use Rattle.std.proofs.Common.{◌≡◌, ℕ, Bool, true, false, List, [], ◌∷◌, ◌++◌, inl, inr, refl, sym, ap, ◌∙◌, subst, arith}
use Rattle.std.specs.Prelude.{⊤}
use Rattle.runs.specs.Run.{Run}
use Rattle.ldc_link.specs.declared.phase.Role.{Role}
use Rattle.ldc_link.specs.declared.phase.Role.TheVariants.{Initiator, Responder}
use Rattle.ldc_link.specs.LinkState.{is_up}
use Rattle.ldc_queue.specs.declared.end.ChannelState.{ChannelState}
use Rattle.ldc_queue.specs.declared.end.ChannelState.TheVariants.{Down, Resetting, Up}
use Rattle.ldc_queue.specs.declared.end.End.{End}
use Rattle.ldc_queue.specs.declared.end.End.TheVariants.{A, B}
use Rattle.ldc_queue.specs.OneStream.{IsFront}
use Rattle.ldc_queue.specs.Transcript.{Utterance}
use Rattle.ldc_queue.specs.Wire.{peer_of}
use Rattle.runs.specs.Lawful.{log_of}
use Rattle.vio_handshake.specs.declared.handshake.Handshake.{Handshake}
use Rattle.vio_handshake.specs.declared.session.Offer.{Offer}
use Rattle.vio_handshake.specs.Offers.{Match}
use Rattle.vio_handshake.specs.Pairing.{KnowsBoth}
use Rattle.vio_handshake.proofs.Places.{AllSaid, Deal, answered_in_all, asked_in_all, handshake_at}
use Rattle.lane_models.specs.Sayings.{heard, said}
use Rattle.lane_models.specs.TranscriptLog.{transcript_of}
use Rattle.lane_models.specs.WireAt.{IsUp}
use Rattle.lane_models.proofs.Apart.{true_is_false}
use Rattle.lane_models.proofs.ConversingRuns.{converse_keeps, first_converse, heard_messages, messages_of, unheard}
use Rattle.lane_models.proofs.CoreRuns.{Knows, knows_run}
use Rattle.lane_models.proofs.EndResting.{StandsResting}
use Rattle.lane_models.proofs.EndStanding.{open_up}
use Rattle.lane_models.proofs.EndUttering.{each_front}
use Rattle.lane_models.proofs.HandshakePlaces.{AtPlace, deal, open_place, place_open}
use Rattle.lane_models.proofs.HandshakesPlaced.{Meets, first_meets, meets_keep, up_or}
use Rattle.lane_models.proofs.WhoOwes.{initiator_done}
use Rattle.lane_models.specs.Conversing.{Converse}
use Rattle.lane_models.specs.CoreLog.{CoreLog, after, nothing_yet}
use Rattle.lane_models.specs.EndCore.{EndCore}
use Rattle.lane_models.specs.LaneCore.{CoreEvent, CoreFits, CoreStep, LaneCore, end_of, fresh_core, role_of, transcript_after, transcript_behind}
use Rattle.lane_models.specs.OneSession.{AreOneSession}
use Rattle.lane_models.specs.Sides.{Sides, sides_of, swapped}
use Rattle.lane_models.specs.Standing.{EndStands}
use Rattle.lane_models.specs.Utterances.{SaysEach}

-- THE TRANSCRIPT of a run is that of its log
pub transcript_is : (l : CoreLog) (events : List CoreEvent) → (log_of after l events).transcript ≡ log_of transcript_after l.transcript events
transcript_is l [] = refl
transcript_is l (event ∷ events) = transcript_is (after l event) events

-- AN OPEN SESSION heard a message
pub open_heard : (role : Role) (c : EndCore) (turns : List Utterance) → StandsResting role c turns → c.is_open ≡ true → heard turns ≡ [] → ⊥
open_heard role c turns knows is none = grind arith

-- BOTH ENDS ARE UP
record Opens (s : LaneCore) : Type 0 where
  closed_a : s.wire.wire.end_a ≡ Down → ⊥
  closed_b : s.wire.wire.end_b ≡ Down → ⊥
  one : s.wire.wire.end_a ≡ Resetting → s.wire.wire.end_b ≡ Resetting → ⊥
  hears_a : s.wire.wire.end_a ≡ Up → (s.wire.wire.end_b ≡ Up → ⊥) → ⊥
  hears_b : s.wire.wire.end_b ≡ Up → (s.wire.wire.end_a ≡ Up → ⊥) → ⊥

both_in : (a b : ChannelState) (s : LaneCore) → s.wire.wire.end_a ≡ a → s.wire.wire.end_b ≡ b → Opens s → IsUp A s.wire.wire × IsUp B s.wire.wire
both_in a b s is_a is_b opens = grind arith

pub both_up : (Holds : Role → Sides → Type 0) (s : LaneCore) (l : CoreLog) → Knows Holds s l → Converse Initiator (sides_of s l.transcript) → s.a.is_open ≡ true → s.b.is_open ≡ true
    → IsUp A s.wire.wire × IsUp B s.wire.wire
both_up Holds s l knows c opened peer_opened =
    both_in s.wire.wire.end_a s.wire.wire.end_b s refl refl (record {
      closed_a = λ down. true_is_false (sym opened ∙ knows.up.closed A down);
      closed_b = λ down. true_is_false (sym peer_opened ∙ knows.up.closed B down);
      one = knows.up.one;
      hears_a = λ up not. open_heard Initiator s.a l.transcript.a knows.speaks.a.knows opened (unheard Initiator (sides_of s l.transcript) c up not);
      hears_b = λ up not.
          open_heard Responder s.b l.transcript.b knows.speaks.b.knows peer_opened
          (unheard Responder (swapped (sides_of s l.transcript)) (converse_keeps.swaps Initiator (sides_of s l.transcript) c) up not);
    })

-- THEY ARE ONE
one_in : (both : Bool) (d : Deal) → d.asks.both_rings ≡ both → AreOneSession (handshake_at both d Initiator AllSaid) (handshake_at both d Responder AllSaid)
one_in true d is = record {
  sid = refl;
  minor = refl;
  smaller = refl;
  ring = record { ident = refl; ident_own = refl; slots = refl; count = refl; cookies = refl };
  peer_ring = subst (λ (b : Bool). KnowsBoth b (asked_in_all true d) (answered_in_all true d) d.answers) (sym is)
      (record { ident = refl; ident_own = refl; slots = refl; count = refl; cookies = refl });
}
one_in false d is = record {
  sid = refl;
  minor = refl;
  smaller = refl;
  ring = record { ident = refl; ident_own = refl; slots = refl; count = refl; cookies = refl };
  peer_ring = subst (λ (b : Bool). KnowsBoth b (asked_in_all false d) (answered_in_all false d) d.answers) (sym is) tt;
}

open_done : (both : Bool) (d : Deal) (role : Role) (c : EndCore) (turns : List Utterance) → EndStands role c turns → c.is_open ≡ true → AtPlace both d role c.handshake turns
    → c.handshake ≡ handshake_at both d role AllSaid
open_done both d role c turns stands is at = at.is ∙ ap (handshake_at both d role) (open_place both d role c turns stands at is)

pub one_session : (asks answers : Offer) (s : LaneCore) (l : CoreLog) → Knows (Meets asks answers) s l → s.wire.forged ≡ false → s.a.is_open ≡ true → s.b.is_open ≡ true
    → AreOneSession s.a.handshake s.b.handshake
one_session asks answers s l knows clean opened peer_opened =
    let meets = knows.holds.holds clean in
    let up = both_up (Meets asks answers) s l knows meets.converse opened peer_opened in
    let both = asks.both_rings in
    let d = deal asks answers meets.handshakes.sid in
    let mine = open_done both d Initiator s.a l.transcript.a knows.holds.ends.a opened
    (meets.handshakes.mine up.0 (open_up Initiator s.a l.transcript.a knows.holds.ends.a opened)) in
    let theirs = open_done both d Responder s.b l.transcript.b knows.holds.ends.b peer_opened
    (meets.handshakes.theirs up.1 (open_up Responder s.b l.transcript.b knows.holds.ends.b peer_opened)) in
    subst (λ (h : Handshake). AreOneSession h s.b.handshake) (sym mine) (subst (AreOneSession (handshake_at both d Initiator AllSaid)) (sym theirs) (one_in both d refl))

-- A RESPONDER IN SESSION: its peer is up, and is in session too
pub record PeerIsOpen (s : LaneCore) : Type 0 where
  pub up : IsUp A s.wire.wire
  pub opened : s.a.is_open ≡ true

pub initiator_open : (asks answers : Offer) (s : LaneCore) (l : CoreLog) → Knows (Meets asks answers) s l → s.wire.forged ≡ false → IsUp B s.wire.wire → s.b.is_open ≡ true
    → PeerIsOpen s
initiator_open asks answers s l knows clean up opened =
    let meets = knows.holds.holds clean in
    let both = asks.both_rings in
    let d = deal asks answers meets.handshakes.sid in
    let some : heard l.transcript.b ≡ [] → ⊥ = open_heard Responder s.b l.transcript.b knows.speaks.b.knows opened in
    let up_a : IsUp A s.wire.wire = elim (up_or s.wire.wire.end_a) [
      | inl is ↦ is
      | inr not ↦
          absurd (some (unheard Responder (swapped (sides_of s l.transcript)) (converse_keeps.swaps Initiator (sides_of s l.transcript) meets.converse) up not))
    ] in
    let front : IsFront (heard l.transcript.b) (said l.transcript.a) = messages_of s l.transcript B meets.converse up in
    let link : is_up s.a.link ≡ true = said_up s.a l.transcript.a (λ none. some (front_none (heard l.transcript.b) (said l.transcript.a) front none)) (is_up s.a.link) refl knows.holds.ends.a in
    let mine = meets.handshakes.mine up_a link in
    let theirs = meets.handshakes.theirs up (open_up Responder s.b l.transcript.b knows.holds.ends.b opened) in
    let last = open_place both d Responder s.b l.transcript.b knows.holds.ends.b theirs opened in
    let done = initiator_done both d s.a.handshake s.b.handshake l.transcript.a l.transcript.b mine theirs last front in
    record { up = up_a; opened = place_open both d Initiator s.a l.transcript.a knows.holds.ends.a mine done }
  where
    front_none : (xs ys : List (List ℕ)) → IsFront xs ys → ys ≡ [] → xs ≡ []
    front_none [] ys front none = refl
    front_none (x ∷ xs) ys front none = let wrong : x ∷ (xs ++ front.0) ≡ [] = sym front.1 ∙ none in cc wrong

    said_up : (c : EndCore) (turns : List Utterance) → (said turns ≡ [] → ⊥) → (b : Bool) → is_up c.link ≡ b → EndStands Initiator c turns → is_up c.link ≡ true
    said_up c turns some true is stands = is
    said_up c turns some false is stands = absurd (some (stands.below is).said_none)

-- ALONG EVERY RUN
abbrev May : CoreLog → CoreEvent → Type 0
May l event = ⊤

pub converse_knows : (entries : ℕ) (asks answers : Offer) (events : List CoreEvent) (s : LaneCore) → CoreFits entries asks answers
    → Run CoreStep (fresh_core entries asks answers) events s → Knows Converse s (log_of after (nothing_yet entries) events)
converse_knows entries asks answers events s fits run =
    (knows_run Converse converse_keeps May (λ x l e y knows step. tt) entries asks answers events s fits (first_converse entries asks answers fits.most_entries) run).1

pub meets_knows : (entries : ℕ) (asks answers : Offer) (events : List CoreEvent) (s : LaneCore) → CoreFits entries asks answers → Match asks answers
    → Run CoreStep (fresh_core entries asks answers) events s → Knows (Meets asks answers) s (log_of after (nothing_yet entries) events)
meets_knows entries asks answers events s fits matched run =
    (knows_run (Meets asks answers) (meets_keep asks answers (record { asks_fit = fits.asks_fit; answers_fit = fits.answers_fit; matched = matched })) May (λ x l e y knows step. tt) entries asks answers events s
    fits (first_meets entries asks answers fits.most_entries) run).1

pub open_sessions_up : (entries : ℕ) (asks answers : Offer) (events : List CoreEvent) (s : LaneCore) → CoreFits entries asks answers
    → Run CoreStep (fresh_core entries asks answers) events s → s.wire.forged ≡ false → s.a.is_open ≡ true → s.b.is_open ≡ true → IsUp A s.wire.wire × IsUp B s.wire.wire
open_sessions_up entries asks answers events s fits run clean opened peer_opened =
    let knows = converse_knows entries asks answers events s fits run in
    both_up Converse s (log_of after (nothing_yet entries) events) knows (knows.holds.holds clean) opened peer_opened

pub open_sessions_one : (entries : ℕ) (asks answers : Offer) (events : List CoreEvent) (s : LaneCore) → CoreFits entries asks answers → Match asks answers
    → Run CoreStep (fresh_core entries asks answers) events s → s.wire.forged ≡ false → s.a.is_open ≡ true → s.b.is_open ≡ true → AreOneSession s.a.handshake s.b.handshake
open_sessions_one entries asks answers events s fits matched run clean opened peer_opened =
    one_session asks answers s (log_of after (nothing_yet entries) events) (meets_knows entries asks answers events s fits matched run) clean opened peer_opened

pub open_sessions_begin : (entries : ℕ) (asks answers : Offer) (events : List CoreEvent) (s : LaneCore) → CoreFits entries asks answers → Match asks answers
    → Run CoreStep (fresh_core entries asks answers) events s → s.wire.forged ≡ false → IsUp B s.wire.wire → s.b.is_open ≡ true → PeerIsOpen s
open_sessions_begin entries asks answers events s fits matched run clean up opened =
    initiator_open asks answers s (log_of after (nothing_yet entries) events) (meets_knows entries asks answers events s fits matched run) clean up opened

-- WHAT IS HEARD is as the other end has it
pub said_as_held : (entries : ℕ) (asks answers : Offer) (events : List CoreEvent) (s : LaneCore) (e : End) → CoreFits entries asks answers
    → Run CoreStep (fresh_core entries asks answers) events s
    → SaysEach (role_of e) (end_of e s).handshake.phase (end_of e s).handshake.offer (end_of e s).handshake.draft (said (transcript_of e (transcript_behind events)))
said_as_held entries asks answers events s e fits run = grind (arith, transcript_is, converse_knows)

pub heard_as_said : (entries : ℕ) (asks answers : Offer) (events : List CoreEvent) (s : LaneCore) (e : End) → CoreFits entries asks answers
    → Run CoreStep (fresh_core entries asks answers) events s → s.wire.forged ≡ false → IsUp e s.wire.wire
    → SaysEach (role_of (peer_of e)) (end_of (peer_of e) s).handshake.phase (end_of (peer_of e) s).handshake.offer (end_of (peer_of e) s).handshake.draft (heard (transcript_of e (transcript_behind events)))
heard_as_said entries asks answers events s e fits run clean up = grind (arith, each_front, heard_messages, said_as_held)
