-- Messages never reset an end for a cause that a script, a restart or a tick gives.
use Rattle.std.proofs.Common.{ℕ, Bool, true, false, Option, Some, None, List, refl}
use Rattle.std.specs.Prelude.{nat_le, ◌==◌, ◌&&◌, if◌then◌else◌, ⊤}
use Rattle.ldc_link.specs.declared.phase.Role.{Role}
use Rattle.ldc_link.specs.declared.phase.Role.TheVariants.{Initiator, Responder}
use Rattle.ldc_packet.specs.declared.packet.Subtype.{Subtype}
use Rattle.ldc_packet.specs.declared.packet.Subtype.TheVariants.{Info, Ack, Nack}
use Rattle.vio_tag.specs.declared.cause.Cause.{Cause}
use Rattle.vio_tag.specs.declared.cause.Cause.TheVariants as the_cause
use Rattle.vio_tag.specs.declared.message.Message.{Message}
use Rattle.vio_tag.specs.declared.message.MsgBody.{MsgBody}
use Rattle.vio_tag.specs.declared.message.MsgBody.TheVariants.{Ver, Attr, DringReg, Rdx}
use Rattle.vio_handshake.specs.Attributes.{accepts_answered}
use Rattle.vio_handshake.specs.declared.handshake.Handshake.{Handshake}
use Rattle.vio_handshake.specs.declared.handshake.Phase.{Phase}
use Rattle.vio_handshake.specs.declared.handshake.Phase.TheVariants as state
use Rattle.vio_handshake.specs.Rules as rules
use Rattle.vio_handshake.specs.Rules.{Faults, Goes, GoesOpen, HandshakeTake, answered, asked, fault_or, is_declined, row, handshake_hear, handshake_take, sid_fault}
use Rattle.lane_models.proofs.OwnCauses.{IsOwn}

abbrev pub OwnHandshake : HandshakeTake → Type 0
OwnHandshake (Goes h) = ⊤
OwnHandshake (GoesOpen h) = ⊤
OwnHandshake (Faults cause) = IsOwn cause

handshake_if : (b : Bool) (one other : HandshakeTake) → OwnHandshake one → OwnHandshake other → OwnHandshake (if b then one else other)
handshake_if true one other own rest = own
handshake_if false one other own rest = rest

answered_own : (s : Subtype) (judged : HandshakeTake) → OwnHandshake judged → OwnHandshake (answered s judged)
answered_own Info judged own = refl
answered_own Ack judged own = own
answered_own Nack judged own = refl

asked_own : (s : Subtype) (judged : HandshakeTake) → OwnHandshake judged → OwnHandshake (asked s judged)
asked_own Info judged own = own
asked_own Ack judged own = refl
asked_own Nack judged own = refl

version_own : (h : Handshake) (sid major minor : ℕ) → OwnHandshake (rules.version_answered h sid major minor)
version_own h sid major minor = handshake_if (major == 1 && nat_le minor h.offer.minor) (Goes _) (Faults the_cause.Refused) tt refl

attributes_own : (h : Handshake) (sid : ℕ) (bytes : List ℕ) → OwnHandshake (rules.attributes_answered h sid bytes)
attributes_own h sid bytes = handshake_if (accepts_answered h.offer h.draft.minor bytes) (Goes _) (Faults the_cause.Refused) tt refl

ready_own : (role : Role) (h : Handshake) → OwnHandshake (rules.ready_answered role h)
ready_own Initiator h = tt
ready_own Responder h = tt

row_own : (role : Role) (p : Phase) (h : Handshake) (s : Subtype) (sid : ℕ) (b : MsgBody) → OwnHandshake (row role p h s sid b)
row_own Initiator state.Version h s sid (Ver major minor class) = answered_own s (rules.version_answered h sid major minor) (version_own h sid major minor)
row_own Responder state.Version h s sid (Ver major minor class) = asked_own s (Goes (rules.version_asked h sid major minor class)) tt
row_own Initiator state.Attributes h s sid (Attr bytes) = answered_own s (rules.attributes_answered h sid bytes) (attributes_own h sid bytes)
row_own Responder state.Attributes h s sid (Attr bytes) = asked_own s (Goes (rules.attributes_asked h sid bytes)) tt
row_own Initiator state.OwnRing h s sid (DringReg ident slots size options count cookies) = answered_own s (Goes (rules.ring_answered Initiator h sid ident)) tt
row_own Responder state.OwnRing h s sid (DringReg ident slots size options count cookies) = answered_own s (Goes (rules.ring_answered Responder h sid ident)) tt
row_own Initiator state.PeerRing h s sid (DringReg ident slots size options count cookies) = asked_own s (Goes (rules.ring_asked h sid ident slots size options count cookies)) tt
row_own Responder state.PeerRing h s sid (DringReg ident slots size options count cookies) = asked_own s (Goes (rules.ring_asked h sid ident slots size options count cookies)) tt
row_own Initiator state.OwnReady h s sid Rdx = answered_own s (rules.ready_answered Initiator h) tt
row_own Responder state.OwnReady h s sid Rdx = answered_own s (rules.ready_answered Responder h) tt
row_own Initiator state.PeerReady h s sid Rdx = asked_own s (Goes _) tt
row_own Responder state.PeerReady h s sid Rdx = asked_own s (Goes _) tt
row_own _ _ h s sid _ = refl

-- the fault of a sid
abbrev pub OwnFault : Option Cause → Type 0
OwnFault None = ⊤
OwnFault (Some cause) = IsOwn cause

fault_if : (b : Bool) (cause : Cause) → IsOwn cause → OwnFault (if b then None else Some cause)
fault_if true cause own = tt
fault_if false cause own = own

pub sid_own : (known : Option ℕ) (found : ℕ) → OwnFault (sid_fault known found)
sid_own None found = tt
sid_own (Some expected) found = fault_if (expected == found) (the_cause.Sid expected found) refl

or_own : (fault : Option Cause) (rest : HandshakeTake) → OwnFault fault → OwnHandshake rest → OwnHandshake (fault_or fault rest)
or_own None rest own own_rest = own_rest
or_own (Some cause) rest own own_rest = own

hear_own : (h : Handshake) (s : Subtype) (sid : ℕ) (b : MsgBody) → OwnHandshake (handshake_hear h s sid b)
hear_own h s sid b = handshake_if (is_declined s b) (Goes _) (row h.role h.phase h s sid b) tt (row_own h.role h.phase h s sid b)

-- what a handshake takes
pub handshake_own : (h : Handshake) (message : Message) → OwnHandshake (handshake_take h message)
handshake_own h message = or_own (sid_fault h.sid message.sid) (handshake_hear h message.subtype message.sid message.body) (sid_own h.sid message.sid) (hear_own h message.subtype message.sid message.body)
