-- What is said and heard before a session opens has no INFO and no ACK of a ring.
use Rattle.std.proofs.lemmas.Bool.{ltb-true}
use Rattle.std.proofs.Common.{◌≡◌, ℕ, ◌<◌, ◌≤◌, Bool, true, false, List, [], ◌∷◌, ◌++◌, length, inl, inr, refl, sym, ap, ◌∙◌, subst, arith, length-append}
use Rattle.std.proofs.lemmas.List.{append-nil}
use Rattle.ldc_link.specs.declared.phase.Role.{Role}
use Rattle.ldc_link.specs.LinkState.{is_up}
use Rattle.ldc_queue.specs.declared.end.ChannelState.TheVariants.{Up}
use Rattle.vio_handshake.specs.declared.session.Offer.{Offer}
use Rattle.vio_handshake.proofs.Places.{AllSaid, AttributesAnswered, Deal, Place, owner}
use Rattle.vio_tag.specs.Spelling.{canonical, envelope_at}
use Rattle.lane_models.specs.Sayings.{heard, said}
use Rattle.lane_models.proofs.EndStanding.{open_up}
use Rattle.lane_models.proofs.HandshakePlaces.{deal, open_place, place_open}
use Rattle.lane_models.proofs.Script.{before, bytes_at, is_role, last_or, one_if, said_at, said_by}
use Rattle.lane_models.specs.Sides.{Sides, other}
use Rattle.lane_models.proofs.Refuting.{true_false}
use Rattle.lane_models.specs.Spoken.{Other, spoken}
use Rattle.port_laws.proofs.PeerOpens.{TwoEnds, mine_at, six_said}
use Rattle.port_laws.proofs.WayMoves.{Plain}

-- THE HANDSHAKE'S MESSAGES
place_other : (d : Deal) (n : Place) → spoken (bytes_at d n) ≡ Other
unfolding canonical
place_other d AttributesAnswered = refl
place_other d _ = refl

place_low : (d : Deal) (n : Place) → envelope_at (bytes_at d n) < 0x0042
unfolding canonical
place_low d n = grind (arith, ltb-true, bytes_at)

plain_one : (b : Bool) (message : List ℕ) (messages : List (List ℕ)) → spoken message ≡ Other → envelope_at message < 0x0042 → Plain messages → Plain (one_if b message messages)
plain_one b message messages is low plain = grind arith

row_plain : (d : Deal) (r : Role) (places : List Place) → Plain (said_by d r places)
row_plain d r [] = record { infos = refl; acks = refl; low = tt }
row_plain d r (n ∷ places) = plain_one (is_role r (owner n)) (bytes_at d n) (said_by d r places) (place_other d n) (place_low d n) (row_plain d r places)

all_plain : (d : Deal) (r : Role) (n : Place) (more messages : List (List ℕ)) → messages ≡ said_at true d r n ++ more → more ≡ [] → Plain messages
all_plain d r n more messages is none =
    subst Plain (sym (is ∙ ap (λ (xs : List (List ℕ)). said_at true d r n ++ xs) none ∙ append-nil (said_at true d r n))) (row_plain d r (before true n))

none_behind : (xs more all : List (List ℕ)) → all ≡ xs ++ more → length xs ≡ 6 → length all ≤ 6 → more ≡ []
none_behind xs [] all is six few = refl
none_behind xs (x ∷ more) all is six few = absurd (omega (arith, ap length is, length-append xs (x ∷ more), six, few))

-- BEFORE IT OPENS
pub record BothPlain (said_messages heard_messages : List (List ℕ)) : Type 0 where
  pub said_plain : Plain said_messages
  pub heard_plain : Plain heard_messages

pub closed_plain : (asks answers : Offer) (role : Role) (s : Sides) → TwoEnds asks answers role s → s.mine.state ≡ Up → s.mine.core.is_open ≡ false → BothPlain (said s.mine.utterances) (heard s.mine.utterances)
closed_plain asks answers role s two_ends up shut = by_link (is_up s.mine.core.link) refl
  where
    by_link : (b : Bool) → is_up s.mine.core.link ≡ b → BothPlain (said s.mine.utterances) (heard s.mine.utterances)
    by_link false down = grind arith
    by_link true link =
        let d = deal asks answers two_ends.meets.handshakes.sid in
        let at = mine_at asks answers role s two_ends up link in
        elim (last_or at.place) [
          | inl last ↦ true_false (sym (place_open true d role s.mine.core s.mine.utterances two_ends.mine at last) ∙ shut)
          | inr far ↦ record {
            said_plain = all_plain d role at.place at.mine (said s.mine.utterances) at.said_is (at.only far).0;
            heard_plain = all_plain d (other role) at.place at.theirs (heard s.mine.utterances) at.heard_is (at.only far).1;
          }
        ]

-- AS IT OPENS, with six messages
pub open_said : (asks answers : Offer) (role : Role) (s : Sides) → TwoEnds asks answers role s → s.mine.state ≡ Up → s.mine.core.is_open ≡ true → length (said s.mine.utterances) ≤ 6 → Plain (said s.mine.utterances)
open_said asks answers role s two_ends up opened few =
    let d = deal asks answers two_ends.meets.handshakes.sid in
    let at = mine_at asks answers role s two_ends up (open_up role s.mine.core s.mine.utterances two_ends.mine opened) in
    let last : at.place ≡ AllSaid = open_place true d role s.mine.core s.mine.utterances two_ends.mine at opened in
    all_plain d role at.place at.mine (said s.mine.utterances) at.said_is (none_behind (said_at true d role at.place) at.mine (said s.mine.utterances) at.said_is (six_said d role at.place last) few)

pub open_heard : (asks answers : Offer) (role : Role) (s : Sides) → TwoEnds asks answers role s → s.mine.state ≡ Up → s.mine.core.is_open ≡ true → length (heard s.mine.utterances) ≤ 6 → Plain (heard s.mine.utterances)
open_heard asks answers role s two_ends up opened few =
    let d = deal asks answers two_ends.meets.handshakes.sid in
    let at = mine_at asks answers role s two_ends up (open_up role s.mine.core s.mine.utterances two_ends.mine opened) in
    let last : at.place ≡ AllSaid = open_place true d role s.mine.core s.mine.utterances two_ends.mine at opened in
    all_plain d _ _ _ _ at.heard_is (none_behind _ _ _ at.heard_is (six_said d _ _ last) few)
