-- A handshake whose link is up doesn't wait for its link again, whatever it takes.
use Rattle.std.proofs.Common.{◌≡◌, ◌≢◌, ℕ, Bool, true, false, Option, Some, None, List, sym, refl, subst}
use Rattle.std.specs.Prelude.{◌==◌, ◌&&◌, min, nat_le, if◌then◌else◌, ⊤}
use Rattle.ldc_link.specs.declared.phase.Role.{Role}
use Rattle.ldc_link.specs.declared.phase.Role.TheVariants.{Initiator, Responder}
use Rattle.ldc_packet.specs.declared.packet.Subtype.{Subtype}
use Rattle.ldc_packet.specs.declared.packet.Subtype.TheVariants.{Info, Ack, Nack}
use Rattle.map_table.specs.declared.cookie.Cookie.{Cookie}
use Rattle.vio_tag.specs.declared.cause.Cause.{Cause}
use Rattle.vio_tag.specs.declared.cause.Cause.TheVariants.{Refused}
use Rattle.vio_tag.specs.declared.message.Message.{Message}
use Rattle.vio_tag.specs.declared.message.MsgBody.{MsgBody}
use Rattle.vio_tag.specs.declared.message.MsgBody.TheVariants.{Ver, Attr, DringReg, Rdx}
use Rattle.vio_handshake.specs.Acceptance.{accepts_ring}
use Rattle.vio_handshake.specs.Attributes.{accepts_answered, accepts_said, answered_attributes, said_attributes}
use Rattle.vio_handshake.specs.Messages.{ack, info, nack, own_ring}
use Rattle.vio_handshake.specs.Rules.{HandshakeTake, Goes, GoesOpen, Faults, agrees_minor, answered, asked, attributes_answered, attributes_asked, behind_ring, fault_or, is_declined, knows, owes, own_named, peer_named, ready_answered, refuses_version, ring_answered, ring_asked, row, handshake_hear, handshake_take, sid_fault, taken, version_answered, version_asked}
use Rattle.vio_handshake.specs.State.{IsFault}
use Rattle.vio_handshake.specs.declared.session.HsOut.{HsOut}
use Rattle.vio_handshake.specs.declared.session.HsOut.TheVariants.{Nothing, Opens, Fault}
use Rattle.vio_handshake.specs.declared.handshake.Handshake.{Handshake}
use Rattle.vio_handshake.specs.declared.handshake.Phase.{Phase}
use Rattle.vio_handshake.specs.declared.handshake.Phase.TheVariants.{Down, Version, Attributes, OwnRing, PeerRing, PeerRingTaken, OwnReady, PeerReady, PeerReadyTaken}

abbrev IsUp : Phase → Type 0
IsUp Down = ⊥
IsUp _ = ⊤

is_up : (p : Phase) → p ≢ Down → IsUp p
is_up Down up = absurd (up refl)
is_up p up = tt

not_down : (p : Phase) → IsUp p → p ≢ Down
not_down p up is = absurd (subst IsUp is up)

-- whatever comes of a message
abbrev GoesUp : HandshakeTake → Type 0
GoesUp (Goes s) = IsUp s.phase
GoesUp (GoesOpen s) = IsUp s.phase
GoesUp (Faults cause) = ⊤

answered_up : (subtype : Subtype) (judged : HandshakeTake) → GoesUp judged → GoesUp (answered subtype judged)
answered_up Info judged up = tt
answered_up Ack judged up = up
answered_up Nack judged up = tt

asked_up : (subtype : Subtype) (judged : HandshakeTake) → GoesUp judged → GoesUp (asked subtype judged)
asked_up Info judged up = up
asked_up Ack judged up = tt
asked_up Nack judged up = tt

-- of two outcomes whichever comes
if_take : (b : Bool) (x y : HandshakeTake) → GoesUp x → GoesUp y → GoesUp (if b then x else y)
if_take true x y up other = up
if_take false x y up other = other

if_up : (b : Bool) (x y : Handshake) → IsUp x.phase → IsUp y.phase → IsUp (if b then x else y).phase
if_up true x y up other = up
if_up false x y up other = other

after_ring : (b : Bool) → IsUp (behind_ring b)
after_ring true = tt
after_ring false = tt

version_up : (s : Handshake) (sid major minor class : ℕ) → IsUp (version_asked s sid major minor class).phase
version_up s sid major minor class =
    if_up (major == 1) (owes Attributes (ack sid (Ver 1 (min minor s.offer.minor) s.offer.class)) (agrees_minor (min minor s.offer.minor) (knows sid s)))
    (if major == 0 then (refuses_version sid 0 0 class (knows sid s)) else (refuses_version sid 1 s.offer.minor class (knows sid s)))
    tt (if_up (major == 0) (refuses_version sid 0 0 class (knows sid s)) (refuses_version sid 1 s.offer.minor class (knows sid s)) tt tt)

ring_up : (s : Handshake) (sid ident slots slot_size options count : ℕ) (cookies : List Cookie) → IsUp (ring_asked s sid ident slots slot_size options count cookies).phase
ring_up s sid ident slots slot_size options count cookies =
    if_up (accepts_ring s.offer slots slot_size options count cookies)
    (owes (behind_ring s.offer.both_rings) (ack sid (DringReg sid slots slot_size options count cookies)) (peer_named s sid slots count cookies))
    (owes PeerRing (nack sid (DringReg ident slots slot_size options count cookies)) s) (after_ring s.offer.both_rings) tt

own_ring_up : (role : Role) (s : Handshake) (sid ident : ℕ) → IsUp (ring_answered role s sid ident).phase
own_ring_up Initiator s sid ident =
    if_up s.offer.both_rings (record (own_named s ident) { phase = PeerRing }) (owes OwnReady (info sid Rdx) (own_named s ident)) tt tt
own_ring_up Responder s sid ident = tt

ready_up : (role : Role) (s : Handshake) → GoesUp (ready_answered role s)
ready_up Initiator s = tt
ready_up Responder s = tt

row_up : (role : Role) (p : Phase) (s : Handshake) (subtype : Subtype) (sid : ℕ) (body : MsgBody) → GoesUp (row role p s subtype sid body)
row_up Initiator Version s subtype sid (Ver major minor class) =
    answered_up subtype (version_answered s sid major minor)
    (if_take (major == 1 && nat_le minor s.offer.minor) (Goes (owes Attributes (info sid (Attr (said_attributes s.offer minor))) (agrees_minor minor s))) (Faults Refused) tt tt)
row_up Responder Version s subtype sid (Ver major minor class) = asked_up subtype (Goes (version_asked s sid major minor class)) (version_up s sid major minor class)
row_up Initiator Attributes s subtype sid (Attr bytes) =
    answered_up subtype (attributes_answered s sid bytes)
    (if_take (accepts_answered s.offer s.draft.minor bytes) (Goes (owes OwnRing (info sid (own_ring s.offer)) s)) (Faults Refused) tt tt)
row_up Responder Attributes s subtype sid (Attr bytes) =
    asked_up subtype (Goes (attributes_asked s sid bytes))
    (if_up (accepts_said s.offer s.draft.minor bytes) (owes PeerRing (ack sid (Attr (answered_attributes s.offer s.draft.minor bytes))) s) (owes Attributes (nack sid (Attr bytes)) s) tt tt)
row_up Initiator OwnRing s subtype sid (DringReg ident slots slot_size options count cookies) =
    answered_up subtype (Goes (ring_answered Initiator s sid ident)) (own_ring_up Initiator s sid ident)
row_up Responder OwnRing s subtype sid (DringReg ident slots slot_size options count cookies) =
    answered_up subtype (Goes (ring_answered Responder s sid ident)) (own_ring_up Responder s sid ident)
row_up Initiator PeerRing s subtype sid (DringReg ident slots slot_size options count cookies) =
    asked_up subtype (Goes (ring_asked s sid ident slots slot_size options count cookies)) (ring_up s sid ident slots slot_size options count cookies)
row_up Responder PeerRing s subtype sid (DringReg ident slots slot_size options count cookies) =
    asked_up subtype (Goes (ring_asked s sid ident slots slot_size options count cookies)) (ring_up s sid ident slots slot_size options count cookies)
row_up Initiator OwnReady s subtype sid Rdx = answered_up subtype (ready_answered Initiator s) (ready_up Initiator s)
row_up Responder OwnReady s subtype sid Rdx = answered_up subtype (ready_answered Responder s) (ready_up Responder s)
row_up Initiator PeerReady s subtype sid Rdx = asked_up subtype (Goes (owes PeerReadyTaken (ack sid Rdx) s)) tt
row_up Responder PeerReady s subtype sid Rdx = asked_up subtype (Goes (owes PeerReadyTaken (ack sid Rdx) s)) tt
row_up Initiator p s subtype sid body = tt
row_up Responder p s subtype sid body = tt

fault_up : (fault : Option Cause) (rest : HandshakeTake) → GoesUp rest → GoesUp (fault_or fault rest)
fault_up None rest up = up
fault_up (Some cause) rest up = tt

take_up : (s : Handshake) (message : Message) → IsUp s.phase → GoesUp (handshake_take s message)
take_up s message up =
    fault_up (sid_fault s.sid message.sid) (handshake_hear s message.subtype message.sid message.body)
    (if_take (is_declined message.subtype message.body) (Goes (record s { owed = Some (nack message.sid message.body) }))
    (row s.role s.phase s message.subtype message.sid message.body) up (row_up s.role s.phase s message.subtype message.sid message.body))

told_up : (answer : HsOut) (s t : Handshake) (take : HandshakeTake) → IsUp s.phase → GoesUp take → taken answer t ≡ take → (IsFault answer → t ≡ s) → IsUp t.phase
told_up Nothing s t take before up is unchanged = subst GoesUp (sym is) up
told_up Opens s t take before up is unchanged = subst GoesUp (sym is) up
told_up (Fault cause) s t take before up is unchanged = subst (λ (h : Handshake). IsUp h.phase) (sym (unchanged tt)) before

pub taken_is_up : (answer : HsOut) (s t : Handshake) (message : Message) → s.phase ≢ Down → taken answer t ≡ handshake_take s message
    → (IsFault answer → t ≡ s) → t.phase ≢ Down
taken_is_up answer s t message up is unchanged =
    not_down t.phase (told_up answer s t (handshake_take s message) (is_up s.phase up) (take_up s message (is_up s.phase up)) is unchanged)
