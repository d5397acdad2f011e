-- Where both sessions are open and nobody forged, each end heard the other's attributes as its offer says them at the minor that was agreed on.
use Rattle.std.proofs.Common.{◌≡◌, ℕ, ◌^◌, ◌<◌, Bool, true, false, List, ◌++◌, refl, sym, ap, ◌∙◌, subst, inl, inr, arith}
use Rattle.runs.specs.Run.{Run}
use Rattle.ldc_link.specs.declared.phase.Role.TheVariants.{Initiator, Responder}
use Rattle.vio_handshake.specs.declared.handshake.Handshake.{Handshake}
use Rattle.vio_handshake.specs.declared.session.Offer.{Offer}
use Rattle.vio_handshake.specs.Offers.{Match}
use Rattle.vio_handshake.proofs.Places.{AllSaid, AttributesAnswered, AttributesSaid, Deal, Place, asked_in_all, handshake_at, message_at}
use Rattle.lane_models.specs.Sayings.{heard}
use Rattle.lane_models.proofs.CoreRuns.{Knows}
use Rattle.lane_models.proofs.EndStanding.{open_up}
use Rattle.lane_models.proofs.HandshakePlaces.{AtPlace, Matches, deal, message_at_spelled, open_place}
use Rattle.lane_models.proofs.HandshakesPlaced.{Meets}
use Rattle.lane_models.proofs.Script.{bytes_at, said_at}
use Rattle.lane_models.proofs.Sessions.{both_up, meets_knows, transcript_is}
use Rattle.lane_models.specs.CoreLog.{CoreLog}
use Rattle.lane_models.specs.Grounds.{Among}
use Rattle.lane_models.specs.KnownAttributes.{KnowAttributes}
use Rattle.lane_models.specs.LaneCore.{CoreEvent, CoreFits, CoreStep, LaneCore, fresh_core, transcript_behind}

-- THE MESSAGE is among those that an end says until its session is open
asked_among : (both : Bool) (asks answers : Offer) (sid : ℕ) (more : List (List ℕ)) → Matches asks answers → sid < 2 ^ 32
    → Among (message_at (deal asks answers sid) AttributesSaid) (said_at both (deal asks answers sid) Initiator AllSaid ++ more)
asked_among true asks answers sid more fits small =
    inr (inl (message_at_spelled asks answers sid AttributesSaid (bytes_at (deal asks answers sid) AttributesSaid) fits small refl))
asked_among false asks answers sid more fits small =
    inr (inl (message_at_spelled asks answers sid AttributesSaid (bytes_at (deal asks answers sid) AttributesSaid) fits small refl))

answered_among : (both : Bool) (asks answers : Offer) (sid : ℕ) (more : List (List ℕ)) → Matches asks answers → sid < 2 ^ 32
    → Among (message_at (deal asks answers sid) AttributesAnswered) (said_at both (deal asks answers sid) Responder AllSaid ++ more)
answered_among true asks answers sid more fits small =
    inr (inl (message_at_spelled asks answers sid AttributesAnswered (bytes_at (deal asks answers sid) AttributesAnswered) fits small refl))
answered_among false asks answers sid more fits small =
    inr (inl (message_at_spelled asks answers sid AttributesAnswered (bytes_at (deal asks answers sid) AttributesAnswered) fits small refl))

sid_in : (both : Bool) (d : Deal) → (asked_in_all both d).sid ≡ d.sid
sid_in true d = refl
sid_in false d = refl

-- BOTH OPEN
known_attributes : (asks answers : Offer) (s : LaneCore) (l : CoreLog) → Matches asks answers → Knows (Meets asks answers) s l → s.wire.forged ≡ false → s.a.is_open ≡ true → s.b.is_open ≡ true
    → KnowAttributes asks answers s.a.handshake.draft.sid (heard l.transcript.a) (heard l.transcript.b)
known_attributes asks answers s l fits knows clean opened peer_opened =
    let meets = knows.holds.holds clean in
    let up = both_up (Meets asks answers) s l knows meets.converse opened peer_opened in
    let both = asks.both_rings in
    let sid = meets.handshakes.sid in
    let d : Deal = deal asks answers sid in
    let at : AtPlace both d Initiator s.a.handshake l.transcript.a = meets.handshakes.mine up.0 (open_up Initiator s.a l.transcript.a knows.holds.ends.a opened) in
    let there : AtPlace both d Responder s.b.handshake l.transcript.b = meets.handshakes.theirs up.1 (open_up Responder s.b l.transcript.b knows.holds.ends.b peer_opened) in
    let last : at.place ≡ AllSaid = open_place both d Initiator s.a l.transcript.a knows.holds.ends.a at opened in
    let peer_last : there.place ≡ AllSaid = open_place both d Responder s.b l.transcript.b knows.holds.ends.b there peer_opened in
    let same : s.a.handshake.draft.sid ≡ sid =
    ap (λ (h : Handshake). h.draft.sid) (at.is ∙ ap (handshake_at both d Initiator) last) ∙ sid_in both d in
    subst (λ (n : ℕ). KnowAttributes asks answers n (heard l.transcript.a) (heard l.transcript.b)) (sym same) (record {
      asked = subst (Among (message_at d AttributesSaid)) (sym (there.heard_is ∙ ap (λ (n : Place). said_at both d Initiator n ++ there.theirs) peer_last))
          (asked_among both asks answers sid there.theirs fits meets.handshakes.small);
      answered = subst (Among (message_at d AttributesAnswered)) (sym (at.heard_is ∙ ap (λ (n : Place). said_at both d Responder n ++ at.theirs) last))
          (answered_among both asks answers sid at.theirs fits meets.handshakes.small);
    })

-- ALONG EVERY RUN
pub attributes_run : (entries : ℕ) (asks answers : Offer) (events : List CoreEvent) (s : LaneCore) → CoreFits entries asks answers → Match asks answers
    → Run CoreStep (fresh_core entries asks answers) events s → s.wire.forged ≡ false → s.a.is_open ≡ true → s.b.is_open ≡ true
    → KnowAttributes asks answers s.a.handshake.draft.sid (heard (transcript_behind events).a) (heard (transcript_behind events).b)
attributes_run entries asks answers events s fits matched run clean opened peer_opened = grind (arith, transcript_is, known_attributes, meets_knows)
