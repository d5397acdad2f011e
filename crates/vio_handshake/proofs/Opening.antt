-- A session opens exactly where a call says so.
use Rattle.std.proofs.Common.{◌≡◌, ℕ, Bool, true, false, Option, Some, None, List, sym, ap, refl, subst}
use Rattle.std.specs.Prelude.{◌==◌, ◌&&◌, min, nat_le, if◌then◌else◌, ⊤}
use Rattle.ldc_link.specs.declared.phase.Role.{Role}
use Rattle.ldc_link.specs.declared.phase.Role.TheVariants.{Initiator, Responder}
use Rattle.ldc_packet.specs.declared.packet.Subtype.{Subtype}
use Rattle.ldc_packet.specs.declared.packet.Subtype.TheVariants.{Info, Ack, Nack}
use Rattle.map_table.specs.declared.cookie.Cookie.{Cookie}
use Rattle.vio_tag.specs.declared.cause.Cause.{Cause}
use Rattle.vio_tag.specs.declared.cause.Cause.TheVariants.{Refused}
use Rattle.vio_tag.specs.declared.message.Message.{Message}
use Rattle.vio_tag.specs.declared.message.MsgBody.{MsgBody}
use Rattle.vio_tag.specs.declared.message.MsgBody.TheVariants.{Ver, Attr, DringReg, Rdx}
use Rattle.vio_handshake.specs.Acceptance.{accepts_ring}
use Rattle.vio_handshake.specs.Attributes.{accepts_answered, accepts_said, answered_attributes, said_attributes}
use Rattle.vio_handshake.specs.Messages.{ack, info, nack, own_ring}
use Rattle.vio_handshake.specs.Rules.{HandshakeTake, Goes, GoesOpen, Faults, agrees_minor, answered, asked, attributes_answered, attributes_asked, behind_ring, fault_or, is_declined, knows, opens_by_put, owes, own_named, peer_named, put_in, ready_answered, refuses_version, ring_answered, ring_asked, row, handshake_hear, handshake_sent, handshake_take, sid_fault, version_answered, version_asked}
use Rattle.vio_handshake.specs.State.{session_in, session_of}
use Rattle.vio_handshake.specs.declared.session.Session.{Session}
use Rattle.vio_handshake.specs.declared.handshake.Handshake.{Handshake}
use Rattle.vio_handshake.specs.declared.handshake.Phase.{Phase}
use Rattle.vio_handshake.specs.declared.handshake.Phase.TheVariants.{Version, Attributes, OwnRing, PeerRing, PeerRingTaken, OwnReady, PeerReady, PeerReadyTaken}

was_in : (s : Handshake) (phase : Phase) → s.phase ≡ phase → session_of s ≡ session_in phase s.draft
was_in s phase is = ap (λ (p : Phase). session_in p s.draft) is

put_stays : (role : Role) (phase : Phase) (s : Handshake) → s.phase ≡ phase → opens_by_put role phase ≡ false → session_of (put_in role phase s) ≡ session_of s
put_stays Initiator PeerReadyTaken s is stays = absurd (cc)
put_stays Responder PeerReadyTaken s is stays = sym (was_in s PeerReadyTaken is)
put_stays Initiator PeerRingTaken s is stays = sym (was_in s PeerRingTaken is)
put_stays Responder PeerRingTaken s is stays = sym (was_in s PeerRingTaken is)
put_stays Initiator phase s is stays = refl
put_stays Responder phase s is stays = refl

pub sent_stays : (s : Handshake) → opens_by_put s.role s.phase ≡ false → session_of (handshake_sent s) ≡ session_of s
sent_stays s stays = put_stays s.role s.phase s refl stays

put_opens : (role : Role) (phase : Phase) (s : Handshake) → s.phase ≡ phase → opens_by_put role phase ≡ true
    → (session_of s ≡ None) × (session_of (put_in role phase s) ≡ Some s.draft)
put_opens Initiator PeerReadyTaken s is opens = (was_in s PeerReadyTaken is, refl)
put_opens Responder PeerReadyTaken s is opens = absurd (cc)
put_opens Initiator phase s is opens = absurd (cc)
put_opens Responder phase s is opens = absurd (cc)

pub sent_opens : (s : Handshake) → opens_by_put s.role s.phase ≡ true → (session_of s ≡ None) × (session_of (handshake_sent s) ≡ Some s.draft)
sent_opens s opens = put_opens s.role s.phase s refl opens

-- what a message makes of the session that was
abbrev pub TakeSession : Option Session → HandshakeTake → Type 0
TakeSession was (Goes t) = session_of t ≡ was
TakeSession was (GoesOpen t) = (was ≡ None) × (session_of t ≡ Some t.draft)
TakeSession was (Faults cause) = ⊤

answered_session : (was : Option Session) (subtype : Subtype) (judged : HandshakeTake) → TakeSession was judged → TakeSession was (answered subtype judged)
answered_session was Info judged session = tt
answered_session was Ack judged session = session
answered_session was Nack judged session = tt

asked_session : (was : Option Session) (subtype : Subtype) (judged : HandshakeTake) → TakeSession was judged → TakeSession was (asked subtype judged)
asked_session was Info judged session = session
asked_session was Ack judged session = tt
asked_session was Nack judged session = tt

cond_take : (was : Option Session) (test : Bool) (x y : HandshakeTake) → TakeSession was x → TakeSession was y → TakeSession was (if test then x else y)
cond_take was true x y session other = session
cond_take was false x y session other = other

cond_session : (was : Option Session) (test : Bool) (x y : Handshake) → session_of x ≡ was → session_of y ≡ was → session_of (if test then x else y) ≡ was
cond_session was true x y session other = session
cond_session was false x y session other = other

none_behind : (both : Bool) (draft : Session) → session_in (behind_ring both) draft ≡ None
none_behind true draft = refl
none_behind false draft = refl

version_asked_none : (s : Handshake) (sid major minor class : ℕ) → session_of (version_asked s sid major minor class) ≡ None
version_asked_none s sid major minor class =
    cond_session None (major == 1) (owes Attributes (ack sid (Ver 1 (min minor s.offer.minor) s.offer.class)) (agrees_minor (min minor s.offer.minor) (knows sid s)))
    (if major == 0 then (refuses_version sid 0 0 class (knows sid s)) else (refuses_version sid 1 s.offer.minor class (knows sid s))) refl
    (cond_session None (major == 0) (refuses_version sid 0 0 class (knows sid s)) (refuses_version sid 1 s.offer.minor class (knows sid s)) refl refl)

attributes_asked_none : (s : Handshake) (sid : ℕ) (bytes : List ℕ) → session_of (attributes_asked s sid bytes) ≡ None
attributes_asked_none s sid bytes =
    cond_session None (accepts_said s.offer s.draft.minor bytes) (owes PeerRing (ack sid (Attr (answered_attributes s.offer s.draft.minor bytes))) s) (owes Attributes (nack sid (Attr bytes)) s) refl refl

ring_asked_none : (s : Handshake) (sid ident slots slot_size options count : ℕ) (cookies : List Cookie) → session_of (ring_asked s sid ident slots slot_size options count cookies) ≡ None
ring_asked_none s sid ident slots slot_size options count cookies =
    cond_session None (accepts_ring s.offer slots slot_size options count cookies)
    (owes (behind_ring s.offer.both_rings) (ack sid (DringReg sid slots slot_size options count cookies)) (peer_named s sid slots count cookies))
    (owes PeerRing (nack sid (DringReg ident slots slot_size options count cookies)) s)
    (none_behind s.offer.both_rings (peer_named s sid slots count cookies).draft) refl

ring_answered_none : (role : Role) (s : Handshake) (sid ident : ℕ) → session_of (ring_answered role s sid ident) ≡ None
ring_answered_none Initiator s sid ident =
    cond_session None s.offer.both_rings (record (own_named s ident) { phase = PeerRing }) (owes OwnReady (info sid Rdx) (own_named s ident)) refl refl
ring_answered_none Responder s sid ident = refl

version_answered_none : (s : Handshake) (sid major minor : ℕ) → TakeSession None (version_answered s sid major minor)
version_answered_none s sid major minor =
    cond_take None (major == 1 && nat_le minor s.offer.minor) (Goes (owes Attributes (info sid (Attr (said_attributes s.offer minor))) (agrees_minor minor s))) (Faults Refused) refl tt

attributes_answered_none : (s : Handshake) (sid : ℕ) (bytes : List ℕ) → TakeSession None (attributes_answered s sid bytes)
attributes_answered_none s sid bytes =
    cond_take None (accepts_answered s.offer s.draft.minor bytes) (Goes (owes OwnRing (info sid (own_ring s.offer)) s)) (Faults Refused) refl tt

ready_answered_none : (role : Role) (s : Handshake) → TakeSession None (ready_answered role s)
ready_answered_none Initiator s = refl
ready_answered_none Responder s = (refl, refl)

-- a row of the table is of a state without a session
row_none : (role : Role) (phase : Phase) (s : Handshake) (subtype : Subtype) (sid : ℕ) (body : MsgBody) (was : Option Session) → was ≡ session_in phase s.draft
    → TakeSession was (row role phase s subtype sid body)
row_none Initiator Version s subtype sid (Ver major minor class) was is =
    subst (λ (w : Option Session). TakeSession w (answered subtype (version_answered s sid major minor))) (sym is) (answered_session None subtype (version_answered s sid major minor) (version_answered_none s sid major minor))
row_none Responder Version s subtype sid (Ver major minor class) was is =
    subst (λ (w : Option Session). TakeSession w (asked subtype (Goes (version_asked s sid major minor class)))) (sym is) (asked_session None subtype (Goes (version_asked s sid major minor class)) (version_asked_none s sid major minor class))
row_none Initiator Attributes s subtype sid (Attr bytes) was is =
    subst (λ (w : Option Session). TakeSession w (answered subtype (attributes_answered s sid bytes))) (sym is) (answered_session None subtype (attributes_answered s sid bytes) (attributes_answered_none s sid bytes))
row_none Responder Attributes s subtype sid (Attr bytes) was is =
    subst (λ (w : Option Session). TakeSession w (asked subtype (Goes (attributes_asked s sid bytes)))) (sym is) (asked_session None subtype (Goes (attributes_asked s sid bytes)) (attributes_asked_none s sid bytes))
row_none Initiator OwnRing s subtype sid (DringReg ident slots slot_size options count cookies) was is =
    subst (λ (w : Option Session). TakeSession w (answered subtype (Goes (ring_answered Initiator s sid ident)))) (sym is) (answered_session None subtype (Goes (ring_answered Initiator s sid ident)) (ring_answered_none Initiator s sid ident))
row_none Responder OwnRing s subtype sid (DringReg ident slots slot_size options count cookies) was is =
    subst (λ (w : Option Session). TakeSession w (answered subtype (Goes (ring_answered Responder s sid ident)))) (sym is) (answered_session None subtype (Goes (ring_answered Responder s sid ident)) (ring_answered_none Responder s sid ident))
row_none Initiator PeerRing s subtype sid (DringReg ident slots slot_size options count cookies) was is =
    subst (λ (w : Option Session). TakeSession w (asked subtype (Goes (ring_asked s sid ident slots slot_size options count cookies)))) (sym is) (asked_session None subtype (Goes (ring_asked s sid ident slots slot_size options count cookies)) (ring_asked_none s sid ident slots slot_size options count cookies))
row_none Responder PeerRing s subtype sid (DringReg ident slots slot_size options count cookies) was is =
    subst (λ (w : Option Session). TakeSession w (asked subtype (Goes (ring_asked s sid ident slots slot_size options count cookies)))) (sym is) (asked_session None subtype (Goes (ring_asked s sid ident slots slot_size options count cookies)) (ring_asked_none s sid ident slots slot_size options count cookies))
row_none Initiator OwnReady s subtype sid Rdx was is =
    subst (λ (w : Option Session). TakeSession w (answered subtype (ready_answered Initiator s))) (sym is) (answered_session None subtype (ready_answered Initiator s) (ready_answered_none Initiator s))
row_none Responder OwnReady s subtype sid Rdx was is =
    subst (λ (w : Option Session). TakeSession w (answered subtype (ready_answered Responder s))) (sym is) (answered_session None subtype (ready_answered Responder s) (ready_answered_none Responder s))
row_none Initiator PeerReady s subtype sid Rdx was is =
    subst (λ (w : Option Session). TakeSession w (asked subtype (Goes (owes PeerReadyTaken (ack sid Rdx) s)))) (sym is) (asked_session None subtype (Goes (owes PeerReadyTaken (ack sid Rdx) s)) refl)
row_none Responder PeerReady s subtype sid Rdx was is =
    subst (λ (w : Option Session). TakeSession w (asked subtype (Goes (owes PeerReadyTaken (ack sid Rdx) s)))) (sym is) (asked_session None subtype (Goes (owes PeerReadyTaken (ack sid Rdx) s)) refl)
row_none Initiator phase s subtype sid body was is = tt
row_none Responder phase s subtype sid body was is = tt

hear_session : (s : Handshake) (subtype : Subtype) (sid : ℕ) (body : MsgBody) → TakeSession (session_of s) (handshake_hear s subtype sid body)
hear_session s subtype sid body =
    cond_take (session_of s) (is_declined subtype body) (Goes (record s { owed = Some (nack sid body) })) (row s.role s.phase s subtype sid body) refl
    (row_none s.role s.phase s subtype sid body (session_of s) refl)

fault_session : (was : Option Session) (fault : Option Cause) (rest : HandshakeTake) → TakeSession was rest → TakeSession was (fault_or fault rest)
fault_session was None rest session = session
fault_session was (Some cause) rest session = tt

take_session : (s : Handshake) (message : Message) → TakeSession (session_of s) (handshake_take s message)
take_session s message =
    fault_session (session_of s) (sid_fault s.sid message.sid) (handshake_hear s message.subtype message.sid message.body) (hear_session s message.subtype message.sid message.body)

pub take_stays : (s t : Handshake) (message : Message) → handshake_take s message ≡ Goes t → session_of t ≡ session_of s
take_stays s t message is = let here = subst (TakeSession (session_of s)) is (take_session s message) in here

pub take_opens : (s t : Handshake) (message : Message) → handshake_take s message ≡ GoesOpen t → (session_of s ≡ None) × (session_of t ≡ Some t.draft)
take_opens s t message is = let here = subst (TakeSession (session_of s)) is (take_session s message) in here
