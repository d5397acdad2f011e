-- What always holds of an end's handshake stays so, of either role.
use Rattle.std.proofs.Common.{◌≡◌, ◌≢◌, ℕ, ◌*◌, ◌≤◌, Bool, true, false, List, take, Option, Some, None, refl, sym, ap, ◌∙◌, subst}
use Rattle.std.specs.Prelude.{◌==◌, ◌&&◌, bit_and, min, nat_le, if◌then◌else◌, ⊤}
use Rattle.std.proofs.lemmas.Bool.{and_parts, eqb-true, leb-true}
use Rattle.ldc_link.specs.declared.phase.Role.{Role}
use Rattle.ldc_link.specs.declared.phase.Role.TheVariants.{Initiator, Responder}
use Rattle.ldc_packet.specs.declared.packet.Subtype.{Subtype}
use Rattle.ldc_packet.specs.declared.packet.Subtype.TheVariants.{Ack, Info, Nack}
use Rattle.map_table.specs.declared.cookie.Cookie.{Cookie}
use Rattle.vio_handshake.specs.Acceptance.{accepts_ring, hold_ring}
use Rattle.vio_handshake.specs.Attributes.{accepts_answered, accepts_said, answered_attributes, said_attributes}
use Rattle.vio_handshake.specs.declared.handshake.Handshake.{Handshake}
use Rattle.vio_handshake.specs.declared.handshake.Phase.{Phase}
use Rattle.vio_handshake.specs.declared.handshake.Phase.TheVariants as handshake
use Rattle.vio_handshake.specs.declared.session.HsOut.TheVariants as said
use Rattle.vio_handshake.specs.declared.session.Offer.{Offer}
use Rattle.vio_handshake.specs.declared.session.Session.{Session}
use Rattle.vio_handshake.specs.Messages.{ack, info, nack, own_ring}
use Rattle.vio_handshake.specs.Rules.{Faults, Goes, GoesOpen, HandshakeTake, agrees_minor, answered, asked, attributes_answered, attributes_asked, behind_ring, fault_or, is_declined, knows, opens_by_put, own_named, owes, peer_named, put_in, ready_answered, refuses_version, ring_answered, ring_asked, row, handshake_hear, handshake_sent, handshake_take, sid_fault, version_answered, version_asked}
use Rattle.vio_handshake.specs.State.{OwesWell, begun, joined_handshake, session_in, handshake_up}
use Rattle.vio_handshake.proofs.Opening.{sent_opens, take_opens, take_stays}
use Rattle.vio_handshake.proofs.WellFormed.{sent_owes, taken_owes, up_owes}
use Rattle.vio_tag.specs.declared.cause.Cause.{Cause}
use Rattle.vio_tag.specs.declared.cause.Cause.TheVariants.{Refused}
use Rattle.vio_tag.specs.declared.message.Message.{Message}
use Rattle.vio_tag.specs.declared.message.MsgBody.{MsgBody}
use Rattle.vio_tag.specs.declared.message.MsgBody.TheVariants.{Attr, DringReg, Rdx, Ver}
use Rattle.vio_tag.specs.Form.{IsWellFormed}
use Rattle.vnet_port.specs.Standing.{HandshakeStands, Knows, KnowsRing, KnowsSid}

pub record Kept (role : Role) (slots : ℕ) (h t : Handshake) : Type 0 where
  pub same_role : t.role ≡ h.role
  pub offer : t.offer ≡ h.offer
  pub known : Knows role t.phase t.sid t.draft slots
  pub began : h.phase ≢ handshake.Down → t.phase ≢ handshake.Down

-- THE LINK COMES UP
begun_kept : (role : Role) (slots : ℕ) (h : Handshake) → Kept role slots h (begun role (joined_handshake h))
begun_kept Initiator slots h = record { same_role = refl; offer = refl; known = record { sid = refl }; began = λ began down. cc }
begun_kept Responder slots h = record { same_role = refl; offer = refl; known = tt; began = λ began down. cc }

begun_version : (role : Role) (h : Handshake) → (begun role (joined_handshake h)).phase ≡ handshake.Version
begun_version Initiator h = refl
begun_version Responder h = refl

pub up_version : (h : Handshake) → (handshake_up h).phase ≡ handshake.Version
up_version h = begun_version h.role h

up_kept : (role : Role) (slots : ℕ) (h : Handshake) → h.role ≡ role → Kept role slots h (handshake_up h)
up_kept role slots h is = subst (λ (r : Role). Kept role slots h (begun r (joined_handshake h))) (sym is) (begun_kept role slots h)

-- PUTTING
sent_in : (role : Role) (phase : Phase) (slots : ℕ) (h : Handshake) → h.phase ≡ phase → Knows role phase h.sid h.draft slots → Kept role slots h (put_in role phase h)
sent_in Initiator handshake.PeerRingTaken slots h is known = record { same_role = refl; offer = refl; known = known; began = λ began down. cc }
sent_in Responder handshake.PeerRingTaken slots h is known = record { same_role = refl; offer = refl; known = known; began = λ began down. cc }
sent_in Initiator handshake.PeerReadyTaken slots h is known = record { same_role = refl; offer = refl; known = known; began = λ began down. cc }
sent_in Responder handshake.PeerReadyTaken slots h is known = record { same_role = refl; offer = refl; known = known; began = λ began down. cc }
sent_in Initiator phase slots h is known =
    record { same_role = refl; offer = refl; known = subst (λ (p : Phase). Knows Initiator p h.sid h.draft slots) (sym is) known; began = λ began. began }
sent_in Responder phase slots h is known =
    record { same_role = refl; offer = refl; known = subst (λ (p : Phase). Knows Responder p h.sid h.draft slots) (sym is) known; began = λ began. began }

sent_kept : (role : Role) (slots : ℕ) (h : Handshake) → h.role ≡ role → Knows role h.phase h.sid h.draft slots → Kept role slots h (handshake_sent h)
sent_kept role slots h is known = subst (λ (r : Role). Kept role slots h (put_in r h.phase h)) (sym is) (sent_in role h.phase slots h refl known)

open_in : (role : Role) (phase : Phase) (h : Handshake) → h.phase ≡ phase → phase ≡ handshake.Open → (put_in role phase h).phase ≡ handshake.Open
open_in Initiator handshake.Open h is opened = is
open_in Responder handshake.Open h is opened = is
open_in role phase h is opened = absurd (cc)

-- an open session stays open, and by what opens it, it is open
pub sent_open : (h : Handshake) → h.phase ≡ handshake.Open → (handshake_sent h).phase ≡ handshake.Open
sent_open h is = open_in h.role h.phase h refl is

open_if : (phase : Phase) (draft session : Session) → session_in phase draft ≡ Some session → phase ≡ handshake.Open
open_if handshake.Open draft session is = refl
open_if phase draft session is = absurd (cc)

pub put_open : (h : Handshake) → opens_by_put h.role h.phase ≡ true → (handshake_sent h).phase ≡ handshake.Open
put_open h opens = open_if (handshake_sent h).phase (handshake_sent h).draft h.draft (sent_opens h opens).1

pub goes_open : (h t : Handshake) (message : Message) → h.phase ≡ handshake.Open → handshake_take h message ≡ Goes t → t.phase ≡ handshake.Open
goes_open h t message opened is =
    open_if t.phase t.draft h.draft (take_stays h t message is ∙ ap (λ (p : Phase). session_in p h.draft) opened)

pub opens_open : (h t : Handshake) (message : Message) → handshake_take h message ≡ GoesOpen t → t.phase ≡ handshake.Open
opens_open h t message is = open_if t.phase t.draft t.draft (take_opens h t message is).1

-- TAKING
abbrev TakeKept : Role → ℕ → Handshake → HandshakeTake → Type 0
TakeKept role slots h (Goes t) = Kept role slots h t
TakeKept role slots h (GoesOpen t) = Kept role slots h t
TakeKept role slots h (Faults cause) = ⊤

-- a ring that is accepted has as many slots as expected, in at most 14 cookies
record Accepted (offer : Offer) (slots count : ℕ) : Type 0 where
  pub slots_are : slots ≡ offer.peer_slots
  pub most : count ≤ 14

accepted_is : (offer : Offer) (slots slot_size options count : ℕ) (cookies : List Cookie) → accepts_ring offer slots slot_size options count cookies ≡ true → Accepted offer slots count
unfolding accepts_ring
accepted_is offer slots slot_size options count cookies is =
    let held : Bool = hold_ring (take count cookies) (slots * slot_size) in
    let two : Bool = slots == offer.peer_slots && slot_size == offer.slot_size in
    let three : Bool = two && bit_and options 1 == 1 in
    let five : ((three && nat_le 1 count) && nat_le count 14) ≡ true = (and_parts ((three && nat_le 1 count) && nat_le count 14) held is).0 in
    let four : (three && nat_le 1 count) ≡ true = (and_parts (three && nat_le 1 count) (nat_le count 14) five).0 in
    let both : two ≡ true = (and_parts two (bit_and options 1 == 1) (and_parts three (nat_le 1 count) four).0).0 in
    record {
      slots_are = eqb-true slots offer.peer_slots (and_parts (slots == offer.peer_slots) (slot_size == offer.slot_size) both).0;
      most = leb-true count 14 (and_parts (three && nat_le 1 count) (nat_le count 14) five).1;
    }

-- an end of a port has a ring, and expects one of as many slots
record Expects (slots : ℕ) (h : Handshake) : Type 0 where
  pub both_rings : h.offer.both_rings ≡ true
  pub slots_are : h.offer.peer_slots ≡ slots

module _ (role : Role) (slots : ℕ) (h : Handshake) where
  cond_kept : (test : Bool) (x y : Handshake) → (test ≡ true → Kept role slots h x) → Kept role slots h y → Kept role slots h (if test then x else y)
  cond_kept true x y one other = one refl
  cond_kept false x y one other = other

  cond_took : (test : Bool) (x y : HandshakeTake) → TakeKept role slots h x → TakeKept role slots h y → TakeKept role slots h (if test then x else y)
  cond_took true x y one other = one
  cond_took false x y one other = other

  asked_kept : (subtype : Subtype) (judged : HandshakeTake) → TakeKept role slots h judged → TakeKept role slots h (asked subtype judged)
  asked_kept Info judged kept = kept
  asked_kept Ack judged kept = tt
  asked_kept Nack judged kept = tt

  answered_kept : (subtype : Subtype) (judged : HandshakeTake) → TakeKept role slots h judged → TakeKept role slots h (answered subtype judged)
  answered_kept Info judged kept = tt
  answered_kept Ack judged kept = kept
  answered_kept Nack judged kept = tt

  behind_kept : (both : Bool) (t : Handshake) (message : Message) → both ≡ true → t.role ≡ h.role → t.offer ≡ h.offer → KnowsRing t.sid t.draft slots
      → Kept role slots h (owes (behind_ring both) message t)
  behind_kept true t message is same offer known = record { same_role = same; offer = offer; known = known; began = λ began down. cc }
  behind_kept false t message is same offer known = absurd (cc is)

  ring_kept : (sid ident ring slot_size options count : ℕ) (cookies : List Cookie) → Expects slots h → KnowsSid h.sid h.draft
      → Kept role slots h (ring_asked h sid ident ring slot_size options count cookies)
  ring_kept sid ident ring slot_size options count cookies expects known =
      cond_kept (accepts_ring h.offer ring slot_size options count cookies)
      (owes (behind_ring h.offer.both_rings) (ack sid (DringReg sid ring slot_size options count cookies)) (peer_named h sid ring count cookies))
      (owes handshake.PeerRing (nack sid (DringReg ident ring slot_size options count cookies)) h)
      (λ is. let accepted : Accepted h.offer ring count = accepted_is h.offer ring slot_size options count cookies is in
      behind_kept h.offer.both_rings (peer_named h sid ring count cookies) (ack sid (DringReg sid ring slot_size options count cookies)) expects.both_rings refl refl
      (record { sid = known.sid; slots = accepted.slots_are ∙ expects.slots_are; most = accepted.most }))
      (record { same_role = refl; offer = refl; known = known; began = λ began down. cc })

  attributes_kept : (sid : ℕ) (bytes : List ℕ) → KnowsSid h.sid h.draft → Kept role slots h (attributes_asked h sid bytes)
  attributes_kept sid bytes known =
      cond_kept (accepts_said h.offer h.draft.minor bytes) (owes handshake.PeerRing (ack sid (Attr (answered_attributes h.offer h.draft.minor bytes))) h)
      (owes handshake.Attributes (nack sid (Attr bytes)) h)
      (λ accepted. record { same_role = refl; offer = refl; known = known; began = λ began down. cc })
      (record { same_role = refl; offer = refl; known = known; began = λ began down. cc })

-- a guest's answers
module _ (slots : ℕ) (h : Handshake) (expects : Expects slots h) where
  own_kept : (both : Bool) (sid ident : ℕ) → both ≡ true → KnowsSid h.sid h.draft
      → Kept Initiator slots h (if both then (record (own_named h ident) { phase = handshake.PeerRing }) else (owes handshake.OwnReady (info sid Rdx) (own_named h ident)))
  own_kept true sid ident is known = record { same_role = refl; offer = refl; known = record { sid = known.sid }; began = λ began down. cc }
  own_kept false sid ident is known = absurd (cc is)

  guest_kept : (phase : Phase) (subtype : Subtype) (sid : ℕ) (body : MsgBody) → Knows Initiator phase h.sid h.draft slots
      → TakeKept Initiator slots h (row Initiator phase h subtype sid body)
  guest_kept handshake.Version subtype sid (Ver major minor class) known =
      answered_kept Initiator slots h subtype (version_answered h sid major minor)
      (cond_took Initiator slots h (major == 1 && nat_le minor h.offer.minor)
      (Goes (owes handshake.Attributes (info sid (Attr (said_attributes h.offer minor))) (agrees_minor minor h))) (Faults Refused)
      (record { same_role = refl; offer = refl; known = record { sid = known.sid }; began = λ began down. cc }) tt)
  guest_kept handshake.Attributes subtype sid (Attr bytes) known =
      answered_kept Initiator slots h subtype (attributes_answered h sid bytes)
      (cond_took Initiator slots h (accepts_answered h.offer h.draft.minor bytes) (Goes (owes handshake.OwnRing (info sid (own_ring h.offer)) h)) (Faults Refused)
      (record { same_role = refl; offer = refl; known = known; began = λ began down. cc }) tt)
  guest_kept handshake.OwnRing subtype sid (DringReg ident ring slot_size options count cookies) known =
      answered_kept Initiator slots h subtype (Goes (ring_answered Initiator h sid ident)) (own_kept h.offer.both_rings sid ident expects.both_rings known)
  guest_kept handshake.PeerRing subtype sid (DringReg ident ring slot_size options count cookies) known =
      asked_kept Initiator slots h subtype (Goes (ring_asked h sid ident ring slot_size options count cookies))
      (ring_kept Initiator slots h sid ident ring slot_size options count cookies expects known)
  guest_kept handshake.OwnReady subtype sid Rdx known =
      answered_kept Initiator slots h subtype (ready_answered Initiator h) (record { same_role = refl; offer = refl; known = known; began = λ began down. cc })
  guest_kept handshake.PeerReady subtype sid Rdx known =
      asked_kept Initiator slots h subtype (Goes (owes handshake.PeerReadyTaken (ack sid Rdx) h))
      (record { same_role = refl; offer = refl; known = known; began = λ began down. cc })
  guest_kept phase subtype sid body known = tt

  -- those of the switch's end
  version_kept : (sid major minor class : ℕ) → Kept Responder slots h (version_asked h sid major minor class)
  version_kept sid major minor class =
      cond_kept Responder slots h (major == 1)
      (owes handshake.Attributes (ack sid (Ver 1 (min minor h.offer.minor) h.offer.class)) (agrees_minor (min minor h.offer.minor) (knows sid h)))
      (if major == 0 then (refuses_version sid 0 0 class (knows sid h)) else (refuses_version sid 1 h.offer.minor class (knows sid h)))
      (λ one. record { same_role = refl; offer = refl; known = record { sid = refl }; began = λ began down. cc })
      (cond_kept Responder slots h (major == 0) (refuses_version sid 0 0 class (knows sid h)) (refuses_version sid 1 h.offer.minor class (knows sid h))
      (λ none. record { same_role = refl; offer = refl; known = tt; began = λ began down. cc })
      (record { same_role = refl; offer = refl; known = tt; began = λ began down. cc }))

  hub_kept : (phase : Phase) (subtype : Subtype) (sid : ℕ) (body : MsgBody) → Knows Responder phase h.sid h.draft slots
      → TakeKept Responder slots h (row Responder phase h subtype sid body)
  hub_kept handshake.Version subtype sid (Ver major minor class) known =
      asked_kept Responder slots h subtype (Goes (version_asked h sid major minor class)) (version_kept sid major minor class)
  hub_kept handshake.Attributes subtype sid (Attr bytes) known =
      asked_kept Responder slots h subtype (Goes (attributes_asked h sid bytes)) (attributes_kept Responder slots h sid bytes known)
  hub_kept handshake.OwnRing subtype sid (DringReg ident ring slot_size options count cookies) known =
      answered_kept Responder slots h subtype (Goes (ring_answered Responder h sid ident))
      (record { same_role = refl; offer = refl; known = record { sid = known.sid; slots = known.slots; most = known.most }; began = λ began down. cc })
  hub_kept handshake.PeerRing subtype sid (DringReg ident ring slot_size options count cookies) known =
      asked_kept Responder slots h subtype (Goes (ring_asked h sid ident ring slot_size options count cookies))
      (ring_kept Responder slots h sid ident ring slot_size options count cookies expects known)
  hub_kept handshake.OwnReady subtype sid Rdx known =
      answered_kept Responder slots h subtype (ready_answered Responder h) (record { same_role = refl; offer = refl; known = known; began = λ began down. cc })
  hub_kept handshake.PeerReady subtype sid Rdx known =
      asked_kept Responder slots h subtype (Goes (owes handshake.PeerReadyTaken (ack sid Rdx) h))
      (record { same_role = refl; offer = refl; known = known; began = λ began down. cc })
  hub_kept phase subtype sid body known = tt

  row_kept : (role : Role) (subtype : Subtype) (sid : ℕ) (body : MsgBody) → Knows role h.phase h.sid h.draft slots
      → TakeKept role slots h (row role h.phase h subtype sid body)
  row_kept Initiator subtype sid body known = guest_kept h.phase subtype sid body known
  row_kept Responder subtype sid body known = hub_kept h.phase subtype sid body known

  fault_kept : (role : Role) (fault : Option Cause) (rest : HandshakeTake) → TakeKept role slots h rest → TakeKept role slots h (fault_or fault rest)
  fault_kept role (Some cause) rest kept = tt
  fault_kept role None rest kept = kept

  take_kept : (role : Role) (message : Message) → h.role ≡ role → Knows role h.phase h.sid h.draft slots → TakeKept role slots h (handshake_take h message)
  take_kept role message is known =
      fault_kept role (sid_fault h.sid message.sid) (handshake_hear h message.subtype message.sid message.body)
      (cond_took role slots h (is_declined message.subtype message.body) (Goes (record h { owed = Some (nack message.sid message.body) }))
      (row h.role h.phase h message.subtype message.sid message.body)
      (record { same_role = refl; offer = refl; known = known; began = λ began. began })
      (subst (λ (r : Role). TakeKept role slots h (row r h.phase h message.subtype message.sid message.body)) (sym is)
      (row_kept role message.subtype message.sid message.body known)))

-- WHAT HOLDS OF IT, after each of these
pub record HandshakeWent (role : Role) (address : List ℕ) (slots : ℕ) (h t : Handshake) : Type 0 where
  pub stands : HandshakeStands role address slots t
  pub began : h.phase ≢ handshake.Down → t.phase ≢ handshake.Down

module _ (role : Role) (address : List ℕ) (slots : ℕ) (h : Handshake) (stands : HandshakeStands role address slots h) where
  went : (t : Handshake) → Kept role slots h t → OwesWell t → HandshakeWent role address slots h t
  went t kept form = record {
    stands = record { same_role = kept.same_role ∙ stands.same_role; offer = kept.offer ∙ stands.offer; form = form; knows = kept.known };
    began = kept.began;
  }

  pub up_went : HandshakeWent role address slots h (handshake_up h)
  up_went = went (handshake_up h) (up_kept role slots h stands.same_role) (up_owes h stands.form)

  pub sent_went : HandshakeWent role address slots h (handshake_sent h)
  sent_went = went (handshake_sent h) (sent_kept role slots h stands.same_role stands.knows) (sent_owes h stands.form)

  took : (message : Message) (take : HandshakeTake) → handshake_take h message ≡ take → TakeKept role slots h take
  took message take is =
      subst (λ (x : HandshakeTake). TakeKept role slots h x) is
      (take_kept slots h (record { both_rings = ap (λ (o : Offer). o.both_rings) stands.offer; slots_are = ap (λ (o : Offer). o.peer_slots) stands.offer })
      role message stands.same_role stands.knows)

  pub goes_went : (t : Handshake) (message : Message) → IsWellFormed message → handshake_take h message ≡ Goes t → HandshakeWent role address slots h t
  goes_went t message form is = went t (took message (Goes t) is) (taken_owes said.Nothing h t message stands.form form (sym is) (λ fault. absurd fault))

  pub opens_went : (t : Handshake) (message : Message) → IsWellFormed message → handshake_take h message ≡ GoesOpen t → HandshakeWent role address slots h t
  opens_went t message form is = went t (took message (GoesOpen t) is) (taken_owes said.Opens h t message stands.form form (sym is) (λ fault. absurd fault))
