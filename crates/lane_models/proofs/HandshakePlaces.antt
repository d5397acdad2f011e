-- Where the two handshakes of a channel that nobody forged stand, whose offers match: each at a place of one deal, having said and heard all that
-- goes before it; once a session is open, messages of it follow.
use Rattle.std.proofs.Common.{◌≡◌, ◌≢◌, ℕ, ◌^◌, ◌<◌, Bool, true, false, Option, Some, None, List, [], ◌∷◌, ◌++◌, refl, sym, ap, ◌∙◌, subst, append_assoc, ◌⊎◌, inl, inr, arith}
use Rattle.std.specs.Prelude.{⊤}
use Rattle.std.proofs.lemmas.List.{append-nil}
use Rattle.ldc_link.specs.declared.phase.Role.{Role}
use Rattle.ldc_link.specs.declared.phase.Role.TheVariants.{Initiator, Responder}
use Rattle.ldc_link.specs.LinkState.{is_up}
use Rattle.ldc_queue.specs.declared.end.ChannelState.TheVariants.{Up}
use Rattle.ldc_queue.specs.OneStream.{IsFront}
use Rattle.ldc_queue.specs.Transcript.{Utterance}
use Rattle.vio_tag.proofs.Canonical.{canonical_spells}
use Rattle.vio_tag.proofs.Same.{spelled_once}
use Rattle.vio_tag.specs.declared.message.Message.{Message}
use Rattle.vio_tag.specs.Form.{IsWellFormed}
use Rattle.vio_tag.specs.Spelling.{SpellsMessage, canonical}
use Rattle.vio_handshake.specs.declared.handshake.Handshake.{Handshake}
use Rattle.vio_handshake.specs.declared.handshake.Phase.TheVariants.{Open}
use Rattle.vio_handshake.specs.declared.session.Offer.{Offer}
use Rattle.vio_handshake.specs.Offers.{Match}
use Rattle.vio_handshake.specs.Rules.{HandshakeTake, handshake_sent, handshake_take}
use Rattle.vio_handshake.specs.State.{next_sid, handshake_up}
use Rattle.vio_handshake.proofs.MessageWidths.{OfferHasWidths, message_has_widths, message_is_well_formed}
use Rattle.vio_handshake.proofs.PlaceRows.{Fits, GoesTo, put_at, take_at}
use Rattle.vio_handshake.proofs.Places.{AllSaid, AttributesAnswered, AttributesSaid, Deal, IsPlace, PeerReadyAnswered, PeerReadySaid, PeerRingAnswered, PeerRingSaid, Place, ReadyAnswered, ReadySaid, RingAnswered, RingSaid, VersionAnswered, VersionSaid, message_at, next, owed_by, owner, phase_at, handshake_at}
use Rattle.lane_models.specs.Sayings.{heard, said}
use Rattle.lane_models.proofs.Apart.{some_is_none, some_same}
use Rattle.lane_models.proofs.EndStanding.{opened_phase}
use Rattle.lane_models.proofs.Script.{PeerSaid, all_before, bytes_at, hears_beyond, hears_next, not_last, other_next, said_at, said_by, says_next, script}
use Rattle.lane_models.specs.EndCore.{EndCore}
use Rattle.lane_models.specs.EndStep.{IsOfSession}
use Rattle.lane_models.specs.LaneCore.{OfferFits}
use Rattle.lane_models.specs.Sides.{Sides, other}
use Rattle.lane_models.specs.Standing.{EndStands}

-- A MESSAGE OF THE SESSION that a deal makes
pub record IsOwn (d : Deal) (bytes : List ℕ) : Type 0 where
  pub message : Message
  pub body : IsOfSession message.body
  pub sid : message.sid ≡ d.sid
  pub is : bytes ≡ canonical message

abbrev pub EachOwn : Deal → List (List ℕ) → Type 0
EachOwn d [] = ⊤
EachOwn d (bytes ∷ messages) = IsOwn d bytes × EachOwn d messages

pub own_more : (d : Deal) (messages : List (List ℕ)) (bytes : List ℕ) → EachOwn d messages → IsOwn d bytes → EachOwn d (messages ++ bytes ∷ [])
own_more d [] bytes each is = (is, tt)
own_more d (one ∷ messages) bytes each is = (each.0, own_more d messages bytes each.1 is)

own_in : (d : Deal) (messages rest : List (List ℕ)) (bytes : List ℕ) (more : List (List ℕ)) → EachOwn d more → more ≡ (messages ++ bytes ∷ []) ++ rest → IsOwn d bytes
own_in d [] rest bytes [] each is = absurd (cc is)
own_in d [] rest bytes (x ∷ more) each is = let same : x ≡ bytes = cc is in subst (IsOwn d) same each.0
own_in d (one ∷ messages) rest bytes [] each is = absurd (cc is)
own_in d (one ∷ messages) rest bytes (x ∷ more) each is = own_in d messages rest bytes more each.1 (let tails : more ≡ (messages ++ bytes ∷ []) ++ rest = cc is in tails)

-- AT A PLACE
pub record AtPlace (both : Bool) (d : Deal) (r : Role) (h : Handshake) (turns : List Utterance) : Type 0 where
  pub place : Place
  pub here : IsPlace both place
  pub is : h ≡ handshake_at both d r place
  pub mine : List (List ℕ)
  pub theirs : List (List ℕ)
  pub said_is : said turns ≡ said_at both d r place ++ mine
  pub heard_is : heard turns ≡ said_at both d (other r) place ++ theirs
  pub only : place ≢ AllSaid → (mine ≡ []) × (theirs ≡ [])
  pub mine_are : EachOwn d mine
  pub theirs_are : EachOwn d theirs

-- BOTH ENDS, in one deal: its sid is that of the initiator's link, and the responder never counts sids
abbrev pub deal : Offer → Offer → ℕ → Deal
deal asks answers sid = record { asks = asks; answers = answers; sid = sid; last = 0 }

abbrev pub offer_in : Offer → Offer → Role → Offer
offer_in asks answers Initiator = asks
offer_in asks answers Responder = answers

pub record HandshakesAt (asks answers : Offer) (role : Role) (s : Sides) : Type 0 where
  pub sid : ℕ
  pub small : sid < 2 ^ 32
  pub offer_mine : s.mine.core.offer ≡ offer_in asks answers role
  pub offer_theirs : s.theirs.core.offer ≡ offer_in asks answers (other role)
  pub last_mine : role ≡ Responder → s.mine.core.handshake.last_sid ≡ 0
  pub last_theirs : other role ≡ Responder → s.theirs.core.handshake.last_sid ≡ 0
  pub mine : s.mine.state ≡ Up → is_up s.mine.core.link ≡ true → AtPlace asks.both_rings (deal asks answers sid) role s.mine.core.handshake s.mine.utterances
  pub theirs : s.theirs.state ≡ Up → is_up s.theirs.core.link ≡ true
      → AtPlace asks.both_rings (deal asks answers sid) (other role) s.theirs.core.handshake s.theirs.utterances

-- THE OFFERS of a deal
pub record Matches (asks answers : Offer) : Type 0 where
  pub asks_fit : OfferFits asks
  pub answers_fit : OfferFits answers
  pub matched : Match asks answers

pub deal_fits : (asks answers : Offer) (sid : ℕ) → Match asks answers → Fits asks.both_rings (deal asks answers sid)
deal_fits asks answers sid matched = record { kind = refl; peer_kind = matched.kind; ring = matched.ring; device = matched.device }

widths : (offer : Offer) → OfferFits offer → OfferHasWidths offer
widths offer fits = search

-- the bytes of a place spell its message
pub message_at_spelled : (asks answers : Offer) (sid : ℕ) (n : Place) (bytes : List ℕ) → Matches asks answers → sid < 2 ^ 32 → bytes ≡ bytes_at (deal asks answers sid) n
    → IsWellFormed (message_at (deal asks answers sid) n) × SpellsMessage bytes (message_at (deal asks answers sid) n)
message_at_spelled asks answers sid n bytes fits small is =
    let d = deal asks answers sid in
    let there = message_is_well_formed d n (widths asks fits.asks_fit) (widths answers fits.answers_fit) in (
      there,
      subst (λ (xs : List ℕ). SpellsMessage xs (message_at d n)) (sym is)
          (canonical_spells (message_at d n) there (message_has_widths d n (widths asks fits.asks_fit) (widths answers fits.answers_fit) small)),
    )

-- and no other
pub message_is : (asks answers : Offer) (sid : ℕ) (n : Place) (m : Message) (bytes : List ℕ) → Matches asks answers → sid < 2 ^ 32 → bytes ≡ bytes_at (deal asks answers sid) n → IsWellFormed m
    → SpellsMessage bytes m → m ≡ message_at (deal asks answers sid) n
message_is asks answers sid n m bytes fits small is form spells =
    let there = message_at_spelled asks answers sid n bytes fits small is in spelled_once bytes m (message_at (deal asks answers sid) n) form there.0 spells there.1

-- WHOSE TURN it is
pub who : (r : Role) (n : Place) → (owner n ≡ Some r) ⊎ ((owner n ≡ Some (other r)) ⊎ (n ≡ AllSaid))
who r n = grind arith

twice : (r : Role) → other (other r) ≡ r
twice Initiator = refl
twice Responder = refl

next_place : (both : Bool) (n : Place) → IsPlace both n → IsPlace both (next both n)
next_place true n here = tt
next_place false VersionSaid here = tt
next_place false VersionAnswered here = tt
next_place false AttributesSaid here = tt
next_place false AttributesAnswered here = tt
next_place false RingSaid here = tt
next_place false RingAnswered here = tt
next_place false PeerRingSaid here = absurd here
next_place false PeerRingAnswered here = absurd here
next_place false ReadySaid here = tt
next_place false ReadyAnswered here = tt
next_place false PeerReadySaid here = tt
next_place false PeerReadyAnswered here = tt
next_place false AllSaid here = tt

-- it owes the message of its place where it is its turn, and is open where all is said
pub owes_at : (both : Bool) (d : Deal) (r : Role) (n : Place) → owner n ≡ Some r → (handshake_at both d r n).owed ≡ Some (message_at d n)
owes_at both d Initiator n own = ap (λ (w : Option Role). owed_by Initiator w (message_at d n)) own
owes_at both d Responder n own = ap (λ (w : Option Role). owed_by Responder w (message_at d n)) own

pub owes_none : (both : Bool) (d : Deal) (r : Role) (n : Place) → n ≡ AllSaid → (handshake_at both d r n).owed ≡ None
owes_none both d Initiator n last = ap (λ (m : Place). owed_by Initiator (owner m) (message_at d m)) last
owes_none both d Responder n last = ap (λ (m : Place). owed_by Responder (owner m) (message_at d m)) last

pub owes_not : (both : Bool) (d : Deal) (r : Role) (n : Place) → owner n ≡ Some (other r) → (handshake_at both d r n).owed ≡ None
owes_not both d Initiator n turn = ap (λ (w : Option Role). owed_by Initiator w (message_at d n)) turn
owes_not both d Responder n turn = ap (λ (w : Option Role). owed_by Responder w (message_at d n)) turn

pub open_at : (both : Bool) (r : Role) (n : Place) → phase_at both r n ≡ Open → n ≡ AllSaid
open_at both r n is = grind arith

pub open_place : (both : Bool) (d : Deal) (r : Role) (c : EndCore) (turns : List Utterance) → EndStands r c turns → (at : AtPlace both d r c.handshake turns) → c.is_open ≡ true
    → at.place ≡ AllSaid
open_place both d r c turns stands at opened =
    open_at both r at.place (ap (λ (h : Handshake). h.phase) (sym at.is) ∙ opened_phase c.handshake.phase (sym stands.opened ∙ opened))

pub place_open : (both : Bool) (d : Deal) (r : Role) (c : EndCore) (turns : List Utterance) → EndStands r c turns → (at : AtPlace both d r c.handshake turns) → at.place ≡ AllSaid
    → c.is_open ≡ true
place_open both d r c turns stands at last = grind arith

-- ITS LINK COMES UP: it said and heard nothing
pub begun_at : (both : Bool) (d : Deal) (r : Role) (h : Handshake) (turns : List Utterance) → h.role ≡ r → h.offer ≡ (handshake_at both d r VersionSaid).offer → (r ≡ Responder → h.last_sid ≡ d.last)
    → (r ≡ Initiator → d.sid ≡ next_sid h) → IsPlace both VersionSaid → said turns ≡ [] → heard turns ≡ [] → AtPlace both d r (handshake_up h) turns
begun_at both d r h turns role offer last sid here said_none heard_none = grind arith

-- IT SAYS the message of its place
pub says_at : (both : Bool) (d : Deal) (r : Role) (h : Handshake) (turns now : List Utterance) (bytes : List ℕ) (message : Message) → (at : AtPlace both d r h turns)
    → h.owed ≡ Some message → bytes ≡ canonical message → said now ≡ said turns ++ bytes ∷ [] → heard now ≡ heard turns → AtPlace both d r (handshake_sent h) now
says_at both d r h turns now bytes message at owed is said_now heard_now =
    elim (who r at.place) [
      | inl own ↦
          let not = not_last r at.place own in
          let none = at.only not in
          let same : message ≡ message_at d at.place =
          (let both_owed : Some message ≡ Some (message_at d at.place) = sym owed ∙ ap (λ (x : Handshake). x.owed) at.is ∙ owes_at both d r at.place own in some_same both_owed) in
          record {
            place = next both at.place;
            here = next_place both at.place at.here;
            is = ap handshake_sent at.is ∙ put_at both d r at.place at.here own;
            mine = [];
            theirs = [];
            said_is = said_now ∙ ap (λ (xs : List (List ℕ)). xs ++ bytes ∷ [])
                (at.said_is ∙ ap (λ (xs : List (List ℕ)). said_at both d r at.place ++ xs) none.0 ∙ append-nil (said_at both d r at.place))
                ∙ ap (λ (b : List ℕ). said_at both d r at.place ++ b ∷ []) (is ∙ ap canonical same)
                ∙ sym (says_next both d r at.place at.here own) ∙ sym (append-nil (said_at both d r (next both at.place)));
            heard_is = heard_now ∙ at.heard_is ∙ ap (λ (xs : List (List ℕ)). said_at both d (other r) at.place ++ xs) none.1
                ∙ ap (λ (xs : List (List ℕ)). xs ++ []) (sym (other_next both d (other r) at.place at.here (own ∙ ap (λ (x : Role). Some x) (sym (twice r)))));
            only = λ far. (refl, refl);
            mine_are = tt;
            theirs_are = tt;
          }
      | inr (inl turn) ↦ (some_is_none (sym owed ∙ ap (λ (x : Handshake). x.owed) at.is ∙ owes_not both d r at.place turn))
      | inr (inr last) ↦ (some_is_none (sym owed ∙ ap (λ (x : Handshake). x.owed) at.is ∙ owes_none both d r at.place last))
    ]

-- IT SAYS a message of its session
pub says_own_at : (both : Bool) (d : Deal) (r : Role) (h g : Handshake) (turns now : List Utterance) (bytes : List ℕ) → (at : AtPlace both d r h turns) → g ≡ h → at.place ≡ AllSaid
    → IsOwn d bytes → said now ≡ said turns ++ bytes ∷ [] → heard now ≡ heard turns → AtPlace both d r g now
says_own_at both d r h g turns now bytes at same last own said_now heard_now = record {
  place = at.place;
  here = at.here;
  is = same ∙ at.is;
  mine = at.mine ++ bytes ∷ [];
  theirs = at.theirs;
  said_is = said_now ∙ ap (λ (xs : List (List ℕ)). xs ++ bytes ∷ []) at.said_is ∙ append_assoc (said_at both d r at.place) at.mine (bytes ∷ []);
  heard_is = heard_now ∙ at.heard_is;
  only = λ far. absurd (far last);
  mine_are = own_more d at.mine bytes at.mine_are own;
  theirs_are = at.theirs_are;
}

-- nothing is said or heard
pub same_at : (both : Bool) (d : Deal) (r : Role) (h g : Handshake) (turns now : List Utterance) → AtPlace both d r h turns → g ≡ h → said now ≡ said turns → heard now ≡ heard turns
    → AtPlace both d r g now
same_at both d r h g turns now at same said_now heard_now = grind arith

-- WHAT THE OTHER SAID
abbrev pub peer_said : (both : Bool) (d : Deal) (r : Role) (h : Handshake) (turns : List Utterance) → AtPlace both d r h turns → PeerSaid both d r (said turns)
peer_said both d r h turns at = record { place = at.place; more = at.mine; is = at.said_is; only = λ far. (at.only far).0 }

-- IT HEARS the message of its place
pub goes_alike : (h g : Handshake) (take answer : HandshakeTake) → take ≡ answer → GoesTo take h → GoesTo answer g → h ≡ g
goes_alike h g take answer is to to_holds = grind arith

pub place_bytes : (asks answers : Offer) (sid : ℕ) (r : Role) (h : Handshake) (turns now : List Utterance) (bytes : List ℕ) (peer : List (List ℕ))
    → (at : AtPlace asks.both_rings (deal asks answers sid) r h turns) → owner at.place ≡ Some (other r) → PeerSaid asks.both_rings (deal asks answers sid) (other r) peer
    → IsFront (heard now) peer → heard now ≡ heard turns ++ bytes ∷ [] → bytes ≡ bytes_at (deal asks answers sid) at.place
place_bytes asks answers sid r h turns now bytes peer at turn peer_so front heard_now =
    let both = asks.both_rings in
    let d = deal asks answers sid in
    let none = at.only (not_last (other r) at.place turn) in
    let was : heard turns ≡ said_at both d (other r) at.place =
    at.heard_is ∙ ap (λ (xs : List (List ℕ)). said_at both d (other r) at.place ++ xs) none.1 ∙ append-nil (said_at both d (other r) at.place) in
    hears_next both d (other r) at.place peer bytes at.here turn peer_so
    (subst (λ (xs : List (List ℕ)). IsFront xs peer) (heard_now ∙ ap (λ (xs : List (List ℕ)). xs ++ bytes ∷ []) was) front)

pub hears_at : (asks answers : Offer) (sid : ℕ) (r : Role) (h g : Handshake) (turns now : List Utterance) (bytes : List ℕ) (message : Message) (peer : List (List ℕ)) → Matches asks answers → sid < 2 ^ 32
    → (at : AtPlace asks.both_rings (deal asks answers sid) r h turns) → owner at.place ≡ Some (other r) → PeerSaid asks.both_rings (deal asks answers sid) (other r) peer
    → IsFront (heard now) peer → heard now ≡ heard turns ++ bytes ∷ [] → said now ≡ said turns → IsWellFormed message → SpellsMessage bytes message → GoesTo (handshake_take h message) g
    → AtPlace asks.both_rings (deal asks answers sid) r g now
hears_at asks answers sid r h g turns now bytes message peer fits small at turn peer_so front heard_now said_now form spells takes =
    let both = asks.both_rings in
    let d = deal asks answers sid in
    let none = at.only (not_last (other r) at.place turn) in
    let was : heard turns ≡ said_at both d (other r) at.place =
    at.heard_is ∙ ap (λ (xs : List (List ℕ)). said_at both d (other r) at.place ++ xs) none.1 ∙ append-nil (said_at both d (other r) at.place) in
    let is : bytes ≡ bytes_at d at.place = place_bytes asks answers sid r h turns now bytes peer at turn peer_so front heard_now in
    let same : message ≡ message_at d at.place = message_is asks answers sid at.place message bytes fits small is form spells in
    record {
      place = next both at.place;
      here = next_place both at.place at.here;
      is = goes_alike g (handshake_at both d r (next both at.place)) (handshake_take h message) (handshake_take (handshake_at both d r at.place) (message_at d at.place))
          (ap (λ (x : Handshake). handshake_take x message) at.is ∙ ap (handshake_take (handshake_at both d r at.place)) same) takes
          (take_at both d r at.place (deal_fits asks answers sid fits.matched) at.here turn);
      mine = [];
      theirs = [];
      said_is = said_now ∙ at.said_is ∙ ap (λ (xs : List (List ℕ)). said_at both d r at.place ++ xs) none.0
          ∙ ap (λ (xs : List (List ℕ)). xs ++ []) (sym (other_next both d r at.place at.here turn));
      heard_is = heard_now ∙ ap (λ (xs : List (List ℕ)). xs ++ bytes ∷ []) was ∙ ap (λ (b : List ℕ). said_at both d (other r) at.place ++ b ∷ []) is
          ∙ sym (says_next both d (other r) at.place at.here turn) ∙ sym (append-nil (said_at both d (other r) (next both at.place)));
      only = λ far. (refl, refl);
      mine_are = tt;
      theirs_are = tt;
    }

-- it hears a message of its session
pub own_heard : (both : Bool) (d : Deal) (r : Role) (h peer : Handshake) (turns peer_turns : List Utterance) (bytes : List ℕ) → (at : AtPlace both d r h turns) → at.place ≡ AllSaid
    → AtPlace both d (other r) peer peer_turns → IsFront (heard turns ++ bytes ∷ []) (said peer_turns) → IsOwn d bytes
own_heard both d r h peer turns peer_turns bytes at last peer_at front =
    let all : heard turns ++ bytes ∷ [] ≡ (script both d (other r) ++ at.theirs) ++ bytes ∷ [] =
    ap (λ (xs : List (List ℕ)). xs ++ bytes ∷ []) (at.heard_is ∙ ap (λ (n : Place). said_at both d (other r) n ++ at.theirs) last
    ∙ ap (λ (ps : List Place). said_by d (other r) ps ++ at.theirs) (all_before both)) in
    let beyond = hears_beyond both d (other r) (said peer_turns) at.theirs bytes (peer_said both d (other r) peer peer_turns peer_at)
    (subst (λ (xs : List (List ℕ)). IsFront xs (said peer_turns)) all front) in
    own_in d at.theirs beyond.0 bytes peer_at.mine peer_at.mine_are beyond.1

pub hears_own_at : (both : Bool) (d : Deal) (r : Role) (h g : Handshake) (turns now : List Utterance) (bytes : List ℕ) → (at : AtPlace both d r h turns) → g ≡ h → at.place ≡ AllSaid
    → IsOwn d bytes → heard now ≡ heard turns ++ bytes ∷ [] → said now ≡ said turns → AtPlace both d r g now
hears_own_at both d r h g turns now bytes at same last own heard_now said_now = record {
  place = at.place;
  here = at.here;
  is = same ∙ at.is;
  mine = at.mine;
  theirs = at.theirs ++ bytes ∷ [];
  said_is = said_now ∙ at.said_is;
  heard_is = heard_now ∙ ap (λ (xs : List (List ℕ)). xs ++ bytes ∷ []) at.heard_is ∙ append_assoc (said_at both d (other r) at.place) at.theirs (bytes ∷ []);
  only = λ far. absurd (far last);
  mine_are = at.mine_are;
  theirs_are = own_more d at.theirs bytes at.theirs_are own;
}
