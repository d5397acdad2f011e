-- What a handshake owes is well formed, so that it can be encoded: where the offer's ring has at most 14 cookies and none
-- after them, and so has each message that is taken. An end that stands on a handshake keeps this.
use Rattle.std.proofs.Common.{◌≡◌, ℕ, Bool, true, false, Option, Some, None, List, sym, refl, subst}
use Rattle.std.specs.Prelude.{◌==◌, ◌&&◌, min, nat_le, if◌then◌else◌, ⊤}
use Rattle.ldc_link.specs.declared.phase.Role.{Role}
use Rattle.ldc_link.specs.declared.phase.Role.TheVariants.{Initiator, Responder}
use Rattle.ldc_packet.specs.declared.packet.Subtype.{Subtype}
use Rattle.ldc_packet.specs.declared.packet.Subtype.TheVariants.{Info, Ack, Nack}
use Rattle.map_table.specs.declared.cookie.Cookie.{Cookie}
use Rattle.vio_tag.specs.Form.{AreCookies, HasForm, IsWellFormed}
use Rattle.vio_tag.specs.declared.cause.Cause.{Cause}
use Rattle.vio_tag.specs.declared.cause.Cause.TheVariants.{Refused}
use Rattle.vio_tag.specs.declared.message.Message.{Message}
use Rattle.vio_tag.specs.declared.message.MsgBody.{MsgBody}
use Rattle.vio_tag.specs.declared.message.MsgBody.TheVariants.{Ver, Attr, DringReg, Rdx}
use Rattle.vio_handshake.specs.Acceptance.{accepts_ring}
use Rattle.vio_handshake.specs.Attributes.{accepts_answered, accepts_said, answered_attributes, said_attributes}
use Rattle.vio_handshake.specs.Messages.{ack, info, nack, own_ring}
use Rattle.vio_handshake.specs.Rules.{HandshakeTake, Goes, GoesOpen, Faults, agrees_minor, answered, asked, attributes_answered, attributes_asked, behind_ring, fault_or, is_declined, knows, owes, own_named, peer_named, put_in, ready_answered, refuses_version, ring_answered, ring_asked, row, handshake_hear, handshake_sent, handshake_take, sid_fault, taken, version_answered, version_asked}
use Rattle.vio_handshake.specs.State.{IsFault, OwesWell, begun, forgotten_handshake, fresh_handshake, joined_handshake, handshake_up}
use Rattle.vio_handshake.specs.declared.session.HsOut.{HsOut}
use Rattle.vio_handshake.specs.declared.session.HsOut.TheVariants.{Nothing, Opens, Fault}
use Rattle.vio_handshake.specs.declared.session.Offer.{Offer}
use Rattle.vio_handshake.specs.declared.handshake.Handshake.{Handshake}
use Rattle.vio_handshake.specs.declared.handshake.Phase.{Phase}
use Rattle.vio_handshake.specs.declared.handshake.Phase.TheVariants.{Version, Attributes, OwnRing, PeerRing, PeerRingTaken, OwnReady, PeerReady, PeerReadyTaken}

pub fresh_owes : (role : Role) (offer : Offer) → AreCookies offer.count offer.cookies → OwesWell (fresh_handshake role offer)
fresh_owes role offer form = record { offer = form; owed = tt }

pub joined_owes : (s : Handshake) → OwesWell s → OwesWell (joined_handshake s)
joined_owes s well = record { offer = well.offer; owed = tt }

pub forgotten_owes : (s : Handshake) → OwesWell s → OwesWell (forgotten_handshake s)
forgotten_owes s well = record { offer = well.offer; owed = tt }

begun_owes : (role : Role) (s : Handshake) → s.owed ≡ None → OwesWell s → OwesWell (begun role s)
begun_owes Initiator s none well = record { offer = well.offer; owed = tt }
begun_owes Responder s none well = record { offer = well.offer; owed = well.owed }

pub up_owes : (s : Handshake) → OwesWell s → OwesWell (handshake_up s)
up_owes s well = begun_owes s.role (joined_handshake s) refl (joined_owes s well)

put_owes : (role : Role) (phase : Phase) (s : Handshake) → OwesWell s → OwesWell (put_in role phase s)
put_owes Initiator PeerRingTaken s well = record { offer = well.offer; owed = tt }
put_owes Responder PeerRingTaken s well = record { offer = well.offer; owed = well.offer }
put_owes Initiator PeerReadyTaken s well = record { offer = well.offer; owed = tt }
put_owes Responder PeerReadyTaken s well = record { offer = well.offer; owed = tt }
put_owes Initiator phase s well = record { offer = well.offer; owed = tt }
put_owes Responder phase s well = record { offer = well.offer; owed = tt }

pub sent_owes : (s : Handshake) → OwesWell s → OwesWell (handshake_sent s)
sent_owes s well = put_owes s.role s.phase s well

-- whatever comes of a message
abbrev pub TakeOwes : HandshakeTake → Type 0
TakeOwes (Goes s) = OwesWell s
TakeOwes (GoesOpen s) = OwesWell s
TakeOwes (Faults cause) = ⊤

answered_owes : (subtype : Subtype) (judged : HandshakeTake) → TakeOwes judged → TakeOwes (answered subtype judged)
answered_owes Info judged well = tt
answered_owes Ack judged well = well
answered_owes Nack judged well = tt

asked_owes : (subtype : Subtype) (judged : HandshakeTake) → TakeOwes judged → TakeOwes (asked subtype judged)
asked_owes Info judged well = well
asked_owes Ack judged well = tt
asked_owes Nack judged well = tt

-- of two outcomes whichever comes
cond_take : (test : Bool) (x y : HandshakeTake) → TakeOwes x → TakeOwes y → TakeOwes (if test then x else y)
cond_take true x y well other = well
cond_take false x y well other = other

cond_owes : (test : Bool) (x y : Handshake) → OwesWell x → OwesWell y → OwesWell (if test then x else y)
cond_owes true x y well other = well
cond_owes false x y well other = other

version_answered_owes : (s : Handshake) (sid major minor : ℕ) → OwesWell s → TakeOwes (version_answered s sid major minor)
version_answered_owes s sid major minor well =
    cond_take (major == 1 && nat_le minor s.offer.minor) (Goes (owes Attributes (info sid (Attr (said_attributes s.offer minor))) (agrees_minor minor s))) (Faults Refused)
    (record { offer = well.offer; owed = tt }) tt

version_asked_owes : (s : Handshake) (sid major minor class : ℕ) → OwesWell s → OwesWell (version_asked s sid major minor class)
version_asked_owes s sid major minor class well =
    cond_owes (major == 1) (owes Attributes (ack sid (Ver 1 (min minor s.offer.minor) s.offer.class)) (agrees_minor (min minor s.offer.minor) (knows sid s)))
    (if major == 0 then (refuses_version sid 0 0 class (knows sid s)) else (refuses_version sid 1 s.offer.minor class (knows sid s)))
    (record { offer = well.offer; owed = tt })
    (cond_owes (major == 0) (refuses_version sid 0 0 class (knows sid s)) (refuses_version sid 1 s.offer.minor class (knows sid s))
    (record { offer = well.offer; owed = tt }) (record { offer = well.offer; owed = tt }))

attributes_answered_owes : (s : Handshake) (sid : ℕ) (bytes : List ℕ) → OwesWell s → TakeOwes (attributes_answered s sid bytes)
attributes_answered_owes s sid bytes well =
    cond_take (accepts_answered s.offer s.draft.minor bytes) (Goes (owes OwnRing (info sid (own_ring s.offer)) s)) (Faults Refused)
    (record { offer = well.offer; owed = well.offer }) tt

attributes_asked_owes : (s : Handshake) (sid : ℕ) (bytes : List ℕ) → OwesWell s → OwesWell (attributes_asked s sid bytes)
attributes_asked_owes s sid bytes well =
    cond_owes (accepts_said s.offer s.draft.minor bytes) (owes PeerRing (ack sid (Attr (answered_attributes s.offer s.draft.minor bytes))) s) (owes Attributes (nack sid (Attr bytes)) s)
    (record { offer = well.offer; owed = tt }) (record { offer = well.offer; owed = tt })

ring_answered_owes : (role : Role) (s : Handshake) (sid ident : ℕ) → OwesWell s → OwesWell (ring_answered role s sid ident)
ring_answered_owes Initiator s sid ident well =
    cond_owes s.offer.both_rings (record (own_named s ident) { phase = PeerRing }) (owes OwnReady (info sid Rdx) (own_named s ident))
    (record { offer = well.offer; owed = well.owed }) (record { offer = well.offer; owed = tt })
ring_answered_owes Responder s sid ident well = record { offer = well.offer; owed = well.owed }

ring_asked_owes : (s : Handshake) (sid ident slots slot_size options count : ℕ) (cookies : List Cookie) → OwesWell s → AreCookies count cookies
    → OwesWell (ring_asked s sid ident slots slot_size options count cookies)
ring_asked_owes s sid ident slots slot_size options count cookies well form =
    cond_owes (accepts_ring s.offer slots slot_size options count cookies)
    (owes (behind_ring s.offer.both_rings) (ack sid (DringReg sid slots slot_size options count cookies)) (peer_named s sid slots count cookies))
    (owes PeerRing (nack sid (DringReg ident slots slot_size options count cookies)) s)
    (record { offer = well.offer; owed = form }) (record { offer = well.offer; owed = form })

ready_answered_owes : (role : Role) (s : Handshake) → OwesWell s → TakeOwes (ready_answered role s)
ready_answered_owes Initiator s well = record { offer = well.offer; owed = well.owed }
ready_answered_owes Responder s well = record { offer = well.offer; owed = well.owed }

row_owes : (role : Role) (phase : Phase) (s : Handshake) (subtype : Subtype) (sid : ℕ) (body : MsgBody) → OwesWell s → HasForm body
    → TakeOwes (row role phase s subtype sid body)
row_owes Initiator Version s subtype sid (Ver major minor class) well form =
    answered_owes subtype (version_answered s sid major minor) (version_answered_owes s sid major minor well)
row_owes Responder Version s subtype sid (Ver major minor class) well form =
    asked_owes subtype (Goes (version_asked s sid major minor class)) (version_asked_owes s sid major minor class well)
row_owes Initiator Attributes s subtype sid (Attr bytes) well form =
    answered_owes subtype (attributes_answered s sid bytes) (attributes_answered_owes s sid bytes well)
row_owes Responder Attributes s subtype sid (Attr bytes) well form =
    asked_owes subtype (Goes (attributes_asked s sid bytes)) (attributes_asked_owes s sid bytes well)
row_owes Initiator OwnRing s subtype sid (DringReg ident slots slot_size options count cookies) well form =
    answered_owes subtype (Goes (ring_answered Initiator s sid ident)) (ring_answered_owes Initiator s sid ident well)
row_owes Responder OwnRing s subtype sid (DringReg ident slots slot_size options count cookies) well form =
    answered_owes subtype (Goes (ring_answered Responder s sid ident)) (ring_answered_owes Responder s sid ident well)
row_owes Initiator PeerRing s subtype sid (DringReg ident slots slot_size options count cookies) well form =
    asked_owes subtype (Goes (ring_asked s sid ident slots slot_size options count cookies)) (ring_asked_owes s sid ident slots slot_size options count cookies well form)
row_owes Responder PeerRing s subtype sid (DringReg ident slots slot_size options count cookies) well form =
    asked_owes subtype (Goes (ring_asked s sid ident slots slot_size options count cookies)) (ring_asked_owes s sid ident slots slot_size options count cookies well form)
row_owes Initiator OwnReady s subtype sid Rdx well form = answered_owes subtype (ready_answered Initiator s) (ready_answered_owes Initiator s well)
row_owes Responder OwnReady s subtype sid Rdx well form = answered_owes subtype (ready_answered Responder s) (ready_answered_owes Responder s well)
row_owes Initiator PeerReady s subtype sid Rdx well form =
    asked_owes subtype (Goes (owes PeerReadyTaken (ack sid Rdx) s)) (record { offer = well.offer; owed = tt })
row_owes Responder PeerReady s subtype sid Rdx well form =
    asked_owes subtype (Goes (owes PeerReadyTaken (ack sid Rdx) s)) (record { offer = well.offer; owed = tt })
row_owes Initiator phase s subtype sid body well form = tt
row_owes Responder phase s subtype sid body well form = tt

hear_owes : (s : Handshake) (subtype : Subtype) (sid : ℕ) (body : MsgBody) → OwesWell s → HasForm body → TakeOwes (handshake_hear s subtype sid body)
hear_owes s subtype sid body well form =
    cond_take (is_declined subtype body) (Goes (record s { owed = Some (nack sid body) })) (row s.role s.phase s subtype sid body)
    (record { offer = well.offer; owed = form }) (row_owes s.role s.phase s subtype sid body well form)

fault_owes : (fault : Option Cause) (rest : HandshakeTake) → TakeOwes rest → TakeOwes (fault_or fault rest)
fault_owes None rest well = well
fault_owes (Some cause) rest well = tt

take_owes : (s : Handshake) (message : Message) → OwesWell s → IsWellFormed message → TakeOwes (handshake_take s message)
take_owes s message well form =
    fault_owes (sid_fault s.sid message.sid) (handshake_hear s message.subtype message.sid message.body) (hear_owes s message.subtype message.sid message.body well form)

-- as a program's take has it
told_owes : (answer : HsOut) (s t : Handshake) (take : HandshakeTake) → OwesWell s → TakeOwes take → taken answer t ≡ take → (IsFault answer → t ≡ s) → OwesWell t
told_owes Nothing s t take before well is unchanged = subst TakeOwes (sym is) well
told_owes Opens s t take before well is unchanged = subst TakeOwes (sym is) well
told_owes (Fault cause) s t take before well is unchanged = subst OwesWell (sym (unchanged tt)) before

pub taken_owes : (answer : HsOut) (s t : Handshake) (message : Message) → OwesWell s → IsWellFormed message
    → taken answer t ≡ handshake_take s message → (IsFault answer → t ≡ s) → OwesWell t
taken_owes answer s t message well form is unchanged =
    told_owes answer s t (handshake_take s message) well (take_owes s message well form) is unchanged
