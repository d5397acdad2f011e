-- What always holds of a server's handshake stays so.
use Rattle.std.proofs.Common.{◌≡◌, ◌≢◌, ℕ, ◌*◌, ◌≤◌, Bool, true, false, List, take, Option, Some, None, refl, sym, ap, ◌∙◌, subst}
use Rattle.std.specs.Prelude.{◌==◌, ◌&&◌, bit_and, min, nat_le, if◌then◌else◌, ⊤}
use Rattle.std.proofs.lemmas.Bool.{and_parts, eqb-true, leb-true}
use Rattle.ldc_link.specs.declared.phase.Role.{Role}
use Rattle.ldc_link.specs.declared.phase.Role.TheVariants.{Responder}
use Rattle.ldc_packet.specs.declared.packet.Subtype.{Subtype}
use Rattle.ldc_packet.specs.declared.packet.Subtype.TheVariants.{Ack, Info, Nack}
use Rattle.map_table.specs.declared.cookie.Cookie.{Cookie}
use Rattle.vio_handshake.specs.Acceptance.{accepts_ring, hold_ring}
use Rattle.vio_handshake.specs.Attributes.{accepts_said, answered_attributes}
use Rattle.vio_handshake.specs.declared.handshake.Handshake.{Handshake}
use Rattle.vio_handshake.specs.declared.handshake.Phase.{Phase}
use Rattle.vio_handshake.specs.declared.handshake.Phase.TheVariants as handshake
use Rattle.vio_handshake.specs.declared.session.HsOut.TheVariants as said
use Rattle.vio_handshake.specs.declared.session.Offer.{Offer}
use Rattle.vio_handshake.specs.declared.session.Session.{Session}
use Rattle.vio_handshake.specs.Messages.{ack, nack}
use Rattle.vio_handshake.specs.Rules.{Faults, Goes, GoesOpen, HandshakeTake, agrees_minor, answered, asked, attributes_asked, behind_ring, fault_or, is_declined, knows, owes, peer_named, put_in, ready_answered, refuses_version, ring_answered, ring_asked, row, handshake_hear, handshake_sent, handshake_take, sid_fault, version_asked}
use Rattle.vio_handshake.specs.State.{OwesWell, begun, joined_handshake, session_in, handshake_up}
use Rattle.vio_handshake.proofs.Opening.{take_opens, take_stays}
use Rattle.vio_handshake.proofs.WellFormed.{joined_owes, sent_owes, taken_owes, up_owes}
use Rattle.vio_tag.specs.declared.cause.Cause.{Cause}
use Rattle.vio_tag.specs.declared.message.Message.{Message}
use Rattle.vio_tag.specs.declared.message.MsgBody.{MsgBody}
use Rattle.vio_tag.specs.declared.message.MsgBody.TheVariants.{Attr, DringReg, Rdx, Ver}
use Rattle.vio_tag.specs.Form.{IsWellFormed}
use Rattle.vdisk_server.specs.Standing.{Knows, KnowsRing, KnowsSid, HandshakeStands}

-- BEGINNING
pub handshake_joined : (blocks slots : ℕ) (h : Handshake) → HandshakeStands blocks slots h → HandshakeStands blocks slots (joined_handshake h)
handshake_joined blocks slots h stands = record { role = stands.role; offer = stands.offer; form = joined_owes h stands.form; knows = tt }

pub up_is : (h : Handshake) → h.role ≡ Responder → handshake_up h ≡ record (joined_handshake h) { phase = handshake.Version }
up_is h role = ap (λ (r : Role). begun r (joined_handshake h)) role

pub handshake_rises : (blocks slots : ℕ) (h : Handshake) → HandshakeStands blocks slots h → HandshakeStands blocks slots (handshake_up h)
handshake_rises blocks slots h stands =
    let is : handshake_up h ≡ record (joined_handshake h) { phase = handshake.Version } = up_is h stands.role in
    record {
      role = ap (λ (g : Handshake). g.role) is ∙ stands.role;
      offer = ap (λ (g : Handshake). g.offer) is ∙ stands.offer;
      form = up_owes h stands.form;
      knows = subst (λ (g : Handshake). Knows g.phase g.sid g.draft g.offer.peer_slots) (sym is) tt;
    }

-- PUTTING
pub record Kept (h t : Handshake) : Type 0 where
  pub role : t.role ≡ h.role
  pub offer : t.offer ≡ h.offer
  pub knows : Knows t.phase t.sid t.draft t.offer.peer_slots
  pub began : h.phase ≢ handshake.Down → t.phase ≢ handshake.Down

sent_kept : (phase : Phase) (h : Handshake) → h.phase ≡ phase → Knows phase h.sid h.draft h.offer.peer_slots → Kept h (put_in Responder phase h)
sent_kept handshake.PeerRingTaken h is knows = record { role = refl; offer = refl; knows = knows; began = λ began down. cc }
sent_kept handshake.PeerReadyTaken h is knows = record { role = refl; offer = refl; knows = knows; began = λ began down. cc }
sent_kept handshake.Down h is knows = record { role = refl; offer = refl; knows = subst (λ (p : Phase). Knows p h.sid h.draft h.offer.peer_slots) (sym is) knows; began = λ began. began }
sent_kept phase h is knows = record { role = refl; offer = refl; knows = subst (λ (p : Phase). Knows p h.sid h.draft h.offer.peer_slots) (sym is) knows; began = λ began. began }

pub sent_keeps : (h : Handshake) → h.role ≡ Responder → Knows h.phase h.sid h.draft h.offer.peer_slots → Kept h (handshake_sent h)
sent_keeps h role knows = subst (λ (r : Role). Kept h (put_in r h.phase h)) (sym role) (sent_kept h.phase h refl knows)

open_sent : (phase : Phase) (h : Handshake) → h.phase ≡ phase → phase ≡ handshake.Open → (put_in Responder phase h).phase ≡ handshake.Open
open_sent handshake.Open h is opened = is
open_sent phase h is opened = absurd (cc)

pub sent_open : (h : Handshake) → h.role ≡ Responder → h.phase ≡ handshake.Open → (handshake_sent h).phase ≡ handshake.Open
sent_open h role is = subst (λ (r : Role). (put_in r h.phase h).phase ≡ handshake.Open) (sym role) (open_sent h.phase h refl is)

pub handshake_sends : (blocks slots : ℕ) (h : Handshake) → HandshakeStands blocks slots h → HandshakeStands blocks slots (handshake_sent h)
handshake_sends blocks slots h stands =
    let kept : Kept h (handshake_sent h) = sent_keeps h stands.role stands.knows in
    record { role = kept.role ∙ stands.role; offer = kept.offer ∙ stands.offer; form = sent_owes h stands.form; knows = kept.knows }

-- TAKING
abbrev pub TakeKept : Handshake → HandshakeTake → Type 0
TakeKept h (Goes t) = Kept h t
TakeKept h (GoesOpen t) = Kept h t
TakeKept h (Faults cause) = ⊤

cond_kept : (h : Handshake) (test : Bool) (x y : Handshake) → (test ≡ true → Kept h x) → Kept h y → Kept h (if test then x else y)
cond_kept h true x y one other = one refl
cond_kept h false x y one other = other

asked_kept : (h : Handshake) (subtype : Subtype) (judged : HandshakeTake) → TakeKept h judged → TakeKept h (asked subtype judged)
asked_kept h Info judged kept = kept
asked_kept h Ack judged kept = tt
asked_kept h Nack judged kept = tt

answered_kept : (h : Handshake) (subtype : Subtype) (judged : HandshakeTake) → TakeKept h judged → TakeKept h (answered subtype judged)
answered_kept h Info judged kept = tt
answered_kept h Ack judged kept = kept
answered_kept h Nack judged kept = tt

version_kept : (h : Handshake) (sid major minor class : ℕ) → Kept h (version_asked h sid major minor class)
version_kept h sid major minor class =
    cond_kept h (major == 1) (owes handshake.Attributes (ack sid (Ver 1 (min minor h.offer.minor) h.offer.class)) (agrees_minor (min minor h.offer.minor) (knows sid h)))
    (if major == 0 then (refuses_version sid 0 0 class (knows sid h)) else (refuses_version sid 1 h.offer.minor class (knows sid h)))
    (λ one. record { role = refl; offer = refl; knows = record { sid = refl }; began = λ began down. cc })
    (cond_kept h (major == 0) (refuses_version sid 0 0 class (knows sid h)) (refuses_version sid 1 h.offer.minor class (knows sid h))
    (λ none. record { role = refl; offer = refl; knows = tt; began = λ began down. cc })
    (record { role = refl; offer = refl; knows = tt; began = λ began down. cc }))

attributes_kept : (h : Handshake) (sid : ℕ) (bytes : List ℕ) → KnowsSid h.sid h.draft → Kept h (attributes_asked h sid bytes)
attributes_kept h sid bytes known =
    cond_kept h (accepts_said h.offer h.draft.minor bytes) (owes handshake.PeerRing (ack sid (Attr (answered_attributes h.offer h.draft.minor bytes))) h)
    (owes handshake.Attributes (nack sid (Attr bytes)) h)
    (λ accepted. record { role = refl; offer = refl; knows = known; began = λ began down. cc })
    (record { role = refl; offer = refl; knows = known; began = λ began down. cc })

-- a ring that is accepted has as many slots as expected, in 1 to 14 cookies
pub record Accepted (offer : Offer) (slots count : ℕ) : Type 0 where
  pub slots_are : slots ≡ offer.peer_slots
  pub some : 1 ≤ count
  pub most : count ≤ 14

accepted_is : (offer : Offer) (slots slot_size options count : ℕ) (cookies : List Cookie) → accepts_ring offer slots slot_size options count cookies ≡ true → Accepted offer slots count
unfolding accepts_ring
accepted_is offer slots slot_size options count cookies is =
    let held : Bool = hold_ring (take count cookies) (slots * slot_size) in
    let two : Bool = slots == offer.peer_slots && slot_size == offer.slot_size in
    let three : Bool = two && bit_and options 1 == 1 in
    let five : ((three && nat_le 1 count) && nat_le count 14) ≡ true = (and_parts ((three && nat_le 1 count) && nat_le count 14) held is).0 in
    let four : (three && nat_le 1 count) ≡ true = (and_parts (three && nat_le 1 count) (nat_le count 14) five).0 in
    let both : two ≡ true = (and_parts two (bit_and options 1 == 1) (and_parts three (nat_le 1 count) four).0).0 in
    record {
      slots_are = eqb-true slots offer.peer_slots (and_parts (slots == offer.peer_slots) (slot_size == offer.slot_size) both).0;
      some = leb-true 1 count (and_parts three (nat_le 1 count) four).1;
      most = leb-true count 14 (and_parts (three && nat_le 1 count) (nat_le count 14) five).1;
    }

behind_ring_kept : (both : Bool) (h t : Handshake) → t.role ≡ h.role → t.offer ≡ h.offer → KnowsRing t.sid t.draft t.offer.peer_slots → (message : Message)
    → Kept h (owes (behind_ring both) message t)
behind_ring_kept true h t role offer known message = record { role = role; offer = offer; knows = known; began = λ began down. cc }
behind_ring_kept false h t role offer known message = record { role = role; offer = offer; knows = known; began = λ began down. cc }

ring_kept : (h : Handshake) (sid ident slots slot_size options count : ℕ) (cookies : List Cookie) → KnowsSid h.sid h.draft
    → Kept h (ring_asked h sid ident slots slot_size options count cookies)
ring_kept h sid ident slots slot_size options count cookies known =
    cond_kept h (accepts_ring h.offer slots slot_size options count cookies)
    (owes (behind_ring h.offer.both_rings) (ack sid (DringReg sid slots slot_size options count cookies)) (peer_named h sid slots count cookies))
    (owes handshake.PeerRing (nack sid (DringReg ident slots slot_size options count cookies)) h)
    (λ is. let accepted : Accepted h.offer slots count = accepted_is h.offer slots slot_size options count cookies is in
    behind_ring_kept h.offer.both_rings h (peer_named h sid slots count cookies) refl refl
    (record { sid = known.sid; slots = accepted.slots_are; some = accepted.some; most = accepted.most })
    (ack sid (DringReg sid slots slot_size options count cookies)))
    (record { role = refl; offer = refl; knows = known; began = λ began down. cc })

row_kept : (phase : Phase) (h : Handshake) (subtype : Subtype) (sid : ℕ) (body : MsgBody) → Knows phase h.sid h.draft h.offer.peer_slots
    → TakeKept h (row Responder phase h subtype sid body)
row_kept handshake.Version h subtype sid (Ver major minor class) knows =
    asked_kept h subtype (Goes (version_asked h sid major minor class)) (version_kept h sid major minor class)
row_kept handshake.Attributes h subtype sid (Attr bytes) knows = asked_kept h subtype (Goes (attributes_asked h sid bytes)) (attributes_kept h sid bytes knows)
row_kept handshake.OwnRing h subtype sid (DringReg ident slots slot_size options count cookies) knows =
    answered_kept h subtype (Goes (ring_answered Responder h sid ident))
    (record {
      role = refl;
      offer = refl;
      knows = record { sid = knows.sid; slots = knows.slots; some = knows.some; most = knows.most };
      began = λ began down. cc;
    })
row_kept handshake.PeerRing h subtype sid (DringReg ident slots slot_size options count cookies) knows =
    asked_kept h subtype (Goes (ring_asked h sid ident slots slot_size options count cookies))
    (ring_kept h sid ident slots slot_size options count cookies knows)
row_kept handshake.OwnReady h subtype sid Rdx knows =
    answered_kept h subtype (ready_answered Responder h) (record { role = refl; offer = refl; knows = knows; began = λ began down. cc })
row_kept handshake.PeerReady h subtype sid Rdx knows =
    asked_kept h subtype (Goes (owes handshake.PeerReadyTaken (ack sid Rdx) h)) (record { role = refl; offer = refl; knows = knows; began = λ began down. cc })
row_kept phase h subtype sid body knows = tt

declined_kept : (test : Bool) (h : Handshake) (owed : Option Message) (other : HandshakeTake) → Knows h.phase h.sid h.draft h.offer.peer_slots
    → TakeKept h other → TakeKept h (if test then (Goes (record h { owed = owed })) else other)
declined_kept true h owed other knows kept = record { role = refl; offer = refl; knows = knows; began = λ began. began }
declined_kept false h owed other knows kept = kept

fault_kept : (fault : Option Cause) (h : Handshake) (rest : HandshakeTake) → TakeKept h rest → TakeKept h (fault_or fault rest)
fault_kept (Some cause) h rest kept = tt
fault_kept None h rest kept = kept

pub take_kept : (h : Handshake) (message : Message) → h.role ≡ Responder → Knows h.phase h.sid h.draft h.offer.peer_slots → TakeKept h (handshake_take h message)
take_kept h message role knows =
    fault_kept (sid_fault h.sid message.sid) h (handshake_hear h message.subtype message.sid message.body)
    (declined_kept (is_declined message.subtype message.body) h (Some (nack message.sid message.body)) (row h.role h.phase h message.subtype message.sid message.body) knows
    (subst (λ (r : Role). TakeKept h (row r h.phase h message.subtype message.sid message.body)) (sym role)
    (row_kept h.phase h message.subtype message.sid message.body knows)))

stands_kept : (blocks slots : ℕ) (h t : Handshake) → HandshakeStands blocks slots h → Kept h t → OwesWell t → HandshakeStands blocks slots t
stands_kept blocks slots h t stands kept form = record { role = kept.role ∙ stands.role; offer = kept.offer ∙ stands.offer; form = form; knows = kept.knows }

-- after a message that it took
pub record HandshakeWent (blocks slots : ℕ) (h t : Handshake) : Type 0 where
  pub stands : HandshakeStands blocks slots t
  pub began : h.phase ≢ handshake.Down → t.phase ≢ handshake.Down

pub goes_stands : (blocks slots : ℕ) (h t : Handshake) (message : Message) → HandshakeStands blocks slots h → IsWellFormed message → handshake_take h message ≡ Goes t → HandshakeWent blocks slots h t
goes_stands blocks slots h t message stands form is =
    let kept : Kept h t = subst (λ (take : HandshakeTake). TakeKept h take) is (take_kept h message stands.role stands.knows) in
    record { stands = stands_kept blocks slots h t stands kept (taken_owes said.Nothing h t message stands.form form (sym is) (λ fault. absurd fault)); began = kept.began }

pub opens_stands : (blocks slots : ℕ) (h t : Handshake) (message : Message) → HandshakeStands blocks slots h → IsWellFormed message → handshake_take h message ≡ GoesOpen t → HandshakeWent blocks slots h t
opens_stands blocks slots h t message stands form is =
    let kept : Kept h t = subst (λ (take : HandshakeTake). TakeKept h take) is (take_kept h message stands.role stands.knows) in
    record { stands = stands_kept blocks slots h t stands kept (taken_owes said.Opens h t message stands.form form (sym is) (λ fault. absurd fault)); began = kept.began }

-- an open session stays open
open_if : (phase : Phase) (draft session : Session) → session_in phase draft ≡ Some session → phase ≡ handshake.Open
open_if handshake.Open draft session is = refl
open_if phase draft session is = absurd (cc)

pub goes_open : (h t : Handshake) (message : Message) → h.phase ≡ handshake.Open → handshake_take h message ≡ Goes t → t.phase ≡ handshake.Open
goes_open h t message opened is =
    open_if t.phase t.draft h.draft (take_stays h t message is ∙ ap (λ (p : Phase). session_in p h.draft) opened)

pub opens_open : (h t : Handshake) (message : Message) → handshake_take h message ≡ GoesOpen t → t.phase ≡ handshake.Open
opens_open h t message is = open_if t.phase t.draft t.draft (take_opens h t message is).1
