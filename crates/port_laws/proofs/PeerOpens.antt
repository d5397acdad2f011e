-- Two ends with rings both ways, which nobody forged: how many messages an end has said and heard by whether its session is open, and that
-- its peer's is open where it heard more than the handshake.
use Rattle.std.proofs.Common.{◌≡◌, ◌≢◌, ℕ, ◌+◌, ◌≤◌, inl, inr, Bool, true, false, List, [], ◌++◌, length, refl, sym, ap, ◌∙◌, arith, length-append}
use Rattle.ldc_link.specs.declared.phase.Role.{Role}
use Rattle.ldc_link.specs.declared.phase.Role.TheVariants.{Initiator, Responder}
use Rattle.ldc_link.specs.LinkState.{is_up}
use Rattle.ldc_queue.specs.declared.end.ChannelState.{ChannelState}
use Rattle.ldc_queue.specs.declared.end.ChannelState.TheVariants.{Up}
use Rattle.ldc_queue.specs.Transcript.{Utterance}
use Rattle.vio_handshake.specs.declared.handshake.Handshake.{Handshake}
use Rattle.vio_handshake.specs.declared.session.Offer.{Offer}
use Rattle.vio_handshake.proofs.Places.{AllSaid, Deal, Place}
use Rattle.lane_models.specs.Sayings.{heard, said}
use Rattle.lane_models.proofs.ConversingRuns.{HeardFrom, hears_now}
use Rattle.lane_models.proofs.EndStanding.{open_up}
use Rattle.lane_models.proofs.HandshakePlaces.{AtPlace, deal, place_open}
use Rattle.lane_models.proofs.HandshakesPlaced.{Meets}
use Rattle.lane_models.proofs.Script.{last_or, said_at}
use Rattle.lane_models.specs.Sides.{Sides, other}
use Rattle.lane_models.specs.Standing.{EndStands}
use Rattle.lane_models.proofs.Refuting.{true_false}

-- WHAT AN END SAYS in its handshake: six messages, and before all is said at most so many
most : Role → ℕ
most Initiator = 5
most Responder = 6

few_said : (d : Deal) (r : Role) (n : Place) → n ≢ AllSaid → length (said_at true d r n) ≤ most r
unfolding most
few_said d r n far = grind arith

pub six_said : (d : Deal) (r : Role) (n : Place) → n ≡ AllSaid → length (said_at true d r n) ≡ 6
six_said d r n last = grind (arith, said_at)

-- so many heard show that the peer said all
pub least : Role → ℕ
least Initiator = 7
least Responder = 6

pub least_six : (r : Role) → 6 ≤ least r
unfolding least
least_six r = grind arith

pub least_seven : (r : Role) → least r ≤ 7
unfolding least
least_seven r = grind arith

pub least_heard : {n : ℕ} → 6 ≤ n → least Responder ≤ n
unfolding least
least_heard {n} six = six

more_than : (r : Role) → most (other r) + 1 ≤ least r
unfolding least most
more_than r = grind arith

-- TWO ENDS, from the side of one
pub record TwoEnds (asks answers : Offer) (role : Role) (s : Sides) : Type 0 where
  pub both : asks.both_rings ≡ true
  pub mine : EndStands role s.mine.core s.mine.utterances
  pub theirs : EndStands (other role) s.theirs.core s.theirs.utterances
  pub meets : Meets asks answers role s

longer : (xs more all : List (List ℕ)) → all ≡ xs ++ more → length xs ≤ length all
longer xs more all is = omega (arith, ap length is, length-append xs more)

whole : (xs more all : List (List ℕ)) → all ≡ xs ++ more → more ≡ [] → length all ≡ length xs
whole xs more all is none = omega (arith, ap length is, length-append xs more, ap length none)

none_long : (xs : List (List ℕ)) → xs ≡ [] → length xs ≡ 0
none_long xs is = ap length is

-- where its handshake stands
pub mine_at : (asks answers : Offer) (role : Role) (s : Sides) → (two_ends : TwoEnds asks answers role s) → s.mine.state ≡ Up → is_up s.mine.core.link ≡ true
    → AtPlace true (deal asks answers two_ends.meets.handshakes.sid) role s.mine.core.handshake s.mine.utterances
mine_at asks answers role s two_ends up link = grind (arith, deal)

pub theirs_at : (asks answers : Offer) (role : Role) (s : Sides) → (two_ends : TwoEnds asks answers role s) → s.theirs.state ≡ Up → is_up s.theirs.core.link ≡ true
    → AtPlace true (deal asks answers two_ends.meets.handshakes.sid) (other role) s.theirs.core.handshake s.theirs.utterances
theirs_at asks answers role s two_ends up link = grind (arith, deal)

-- THE ROW of what the initiator says, as an end of this role has it
abbrev pub row : Role → List Utterance → List (List ℕ)
row Initiator turns = said turns
row Responder turns = heard turns

record RowAt (d : Deal) (n : Place) (messages : List (List ℕ)) : Type 0 where
  more : List (List ℕ)
  is : messages ≡ said_at true d Initiator n ++ more
  only : n ≢ AllSaid → more ≡ []

row_at : (d : Deal) (r : Role) (h : Handshake) (turns : List Utterance) (at : AtPlace true d r h turns) → RowAt d at.place (row r turns)
row_at d r h turns at = grind arith

-- in session it has all six of the row, and heard all six of its peer
pub record InAll (r : Role) (turns : List Utterance) : Type 0 where
  pub row_long : 6 ≤ length (row r turns)
  pub heard_long : 6 ≤ length (heard turns)

pub open_long : (asks answers : Offer) (role : Role) (s : Sides) → TwoEnds asks answers role s → s.mine.state ≡ Up → s.mine.core.is_open ≡ true → InAll role s.mine.utterances
open_long asks answers role s two_ends up opened =
    let d = deal asks answers two_ends.meets.handshakes.sid in
    let at = mine_at asks answers role s two_ends up (open_up role s.mine.core s.mine.utterances two_ends.mine opened) in
    grind (arith, longer, said_at, six_said)

-- before, at most five of the row
pub closed_short : (asks answers : Offer) (role : Role) (s : Sides) → TwoEnds asks answers role s → s.mine.state ≡ Up → s.mine.core.is_open ≡ false → length (row role s.mine.utterances) ≤ 5
unfolding most
closed_short asks answers role s two_ends up shut =
    grind (arith, none_long, deal, mine_at, row_at, last_or, true_false, place_open, said_at, few_said, whole)

-- THE PEER'S SESSION is open where an end in session heard so many
pub record PeerIn (s : Sides) : Type 0 where
  pub up : s.theirs.state ≡ Up
  pub opened : s.theirs.core.is_open ≡ true

pub peer_open : (asks answers : Offer) (role : Role) (s : Sides) → TwoEnds asks answers role s → s.mine.state ≡ Up → least role ≤ length (heard s.mine.utterances) → PeerIn s
peer_open asks answers role s two_ends up many = by_state s.theirs.state refl
  where
    hears : HeardFrom s s.mine.utterances
    hears = hears_now role s two_ends.meets.converse up

    some : 6 ≤ length (said s.theirs.utterances)
    some = omega (arith, many, least_six role, longer (heard s.mine.utterances) hears.front.0 (said s.theirs.utterances) hears.front.1)

    all : s.theirs.state ≡ Up → is_up s.theirs.core.link ≡ true → PeerIn s
    all peer_up link =
        let d = deal asks answers two_ends.meets.handshakes.sid in
        let at = theirs_at asks answers role s two_ends peer_up link in
        elim (last_or at.place) [
          | inl last ↦ record { up = peer_up; opened = place_open true d (other role) s.theirs.core s.theirs.utterances two_ends.theirs at last }
          | inr far ↦ (
              absurd (omega (
                arith,
                many,
                more_than role,
                longer (heard s.mine.utterances) hears.front.0 (said s.theirs.utterances) hears.front.1,
                whole (said_at true d (other role) at.place) at.mine (said s.theirs.utterances) at.said_is ((at.only far).0),
                few_said d (other role) at.place far,
              )))
        ]

    by_link : s.theirs.state ≡ Up → (b : Bool) → is_up s.theirs.core.link ≡ b → PeerIn s
    by_link peer_up b link = grind (arith, some, all, none_long)

    never : (s.theirs.state ≡ Up → ⊥) → PeerIn s
    never not = absurd (omega (arith, many, least_six role, none_long (heard s.mine.utterances) (hears.none not)))

    by_state : (x : ChannelState) → s.theirs.state ≡ x → PeerIn s
    by_state Up is = by_link is (is_up s.theirs.core.link) refl
    by_state x is = never (λ now. let wrong : x ≡ Up = sym is ∙ now in cc wrong)

-- an end in session has a peer that is up
pub peer_is_up : (asks answers : Offer) (role : Role) (s : Sides) → TwoEnds asks answers role s → s.mine.state ≡ Up → 1 ≤ length (heard s.mine.utterances) → s.theirs.state ≡ Up
peer_is_up asks answers role s two_ends up some = grind (arith, hears_now, none_long)
