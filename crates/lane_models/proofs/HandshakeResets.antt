-- A message that a handshake refuses says why.
use Rattle.std.proofs.Common.{◌≡◌, ℕ, Bool, true, false, Option, Some, None, List, refl, sym}
use Rattle.std.specs.Prelude.{◌&&◌, nat_eq, nat_le, ◌==◌, if◌then◌else◌, ⊤}
use Rattle.ldc_link.specs.declared.phase.Role.{Role}
use Rattle.ldc_link.specs.declared.phase.Role.TheVariants.{Initiator, Responder}
use Rattle.ldc_packet.specs.declared.packet.Subtype.{Subtype}
use Rattle.ldc_packet.specs.declared.packet.Subtype.TheVariants.{Ack, Info}
use Rattle.vio_bytes.specs.Place.{number_at}
use Rattle.vio_tag.specs.declared.cause.Cause.{Cause}
use Rattle.vio_tag.specs.declared.cause.Cause.TheVariants as the_cause
use Rattle.vio_tag.specs.declared.message.Message.{Message}
use Rattle.vio_tag.specs.declared.message.MsgBody.{MsgBody}
use Rattle.vio_tag.specs.declared.message.MsgBody.TheVariants.{Attr, DringReg, Rdx, Ver}
use Rattle.vio_tag.specs.Fault.{first_fault}
use Rattle.vio_tag.specs.Spelling.{SpellsMessage}
use Rattle.vio_handshake.specs.declared.handshake.Handshake.{Handshake}
use Rattle.vio_handshake.specs.declared.handshake.Phase.{Phase}
use Rattle.vio_handshake.specs.declared.handshake.Phase.TheVariants.{Attributes, OwnReady, OwnRing, PeerReady, PeerRing, Version}
use Rattle.vio_handshake.specs.Attributes.{accepts_answered}
use Rattle.vio_handshake.specs.Rules.{Faults, Goes, GoesOpen, HandshakeTake, answered, asked, attributes_answered, fault_or, is_declined, row, handshake_hear, handshake_take, sid_fault, version_answered}
use Rattle.lane_models.specs.ResetSays.{MessageSays}
use Rattle.lane_models.proofs.LinkResets.{other_number}

-- bytes that spell a message
pub record Spelled (m : List ℕ) (message : Message) : Type 0 where
  pub sound : first_fault m ≡ None
  pub spells : SpellsMessage m message

-- THE HANDSHAKE
abbrev pub HandshakeWhy : List ℕ → HandshakeTake → Type 0
HandshakeWhy m (Goes h) = ⊤
HandshakeWhy m (GoesOpen h) = ⊤
HandshakeWhy m (Faults cause) = MessageSays m cause

handshake_if : (m : List ℕ) (b : Bool) (one other : HandshakeTake) → HandshakeWhy m one → HandshakeWhy m other → HandshakeWhy m (if b then one else other)
handshake_if m true one other why rest = why
handshake_if m false one other why rest = rest

answered_why : (m : List ℕ) (s : Subtype) (t : HandshakeTake) → first_fault m ≡ None → HandshakeWhy m t → HandshakeWhy m (answered s t)
answered_why m Ack t sound why = why
answered_why m _ t sound why = sound

asked_why : (m : List ℕ) (s : Subtype) (h : Handshake) → first_fault m ≡ None → HandshakeWhy m (asked s (Goes h))
asked_why m Info h sound = tt
asked_why m _ h sound = sound

row_why : (m : List ℕ) (role : Role) (p : Phase) (h : Handshake) (s : Subtype) (sid : ℕ) (b : MsgBody) → first_fault m ≡ None → HandshakeWhy m (row role p h s sid b)
row_why m Initiator Version h s sid (Ver major minor class) sound =
    answered_why m s (version_answered h sid major minor) sound (handshake_if m (major == 1 && nat_le minor h.offer.minor) (Goes _) (Faults _) tt sound)
row_why m Responder Version h s sid (Ver major minor class) sound = asked_why m s _ sound
row_why m Initiator Attributes h s sid (Attr bytes) sound =
    answered_why m s (attributes_answered h sid bytes) sound (handshake_if m (accepts_answered h.offer h.draft.minor bytes) (Goes _) (Faults _) tt sound)
row_why m Responder Attributes h s sid (Attr bytes) sound = asked_why m s _ sound
row_why m role OwnRing h s sid (DringReg ident slots slot_size options count cookies) sound = answered_why m s (Goes _) sound tt
row_why m role PeerRing h s sid (DringReg ident slots slot_size options count cookies) sound = asked_why m s _ sound
row_why m Initiator OwnReady h s sid Rdx sound = answered_why m s (Goes _) sound tt
row_why m Responder OwnReady h s sid Rdx sound = answered_why m s (GoesOpen _) sound tt
row_why m role PeerReady h s sid Rdx sound = asked_why m s _ sound
row_why m Initiator p h s sid b sound = sound
row_why m Responder p h s sid b sound = sound

abbrev pub FaultWhy : List ℕ → Option Cause → Type 0
FaultWhy m None = ⊤
FaultWhy m (Some cause) = MessageSays m cause

fault_if : (m : List ℕ) (b : Bool) (expected found : ℕ) → first_fault m ≡ None → found ≡ number_at 4 4 m → b ≡ nat_eq expected found
    → FaultWhy m (if b then None else Some (the_cause.Sid expected found))
fault_if m true expected found sound there is = tt
fault_if m false expected found sound there is = (sound, (there, other_number expected found (sym is)))

pub sid_why : (m : List ℕ) (known : Option ℕ) (message : Message) → Spelled m message → FaultWhy m (sid_fault known message.sid)
sid_why m None message spelled = tt
sid_why m (Some expected) message spelled = fault_if m (expected == message.sid) expected message.sid spelled.sound spelled.spells.sid refl

or_why : (m : List ℕ) (fault : Option Cause) (rest : HandshakeTake) → FaultWhy m fault → HandshakeWhy m rest → HandshakeWhy m (fault_or fault rest)
or_why m None rest why own = own
or_why m (Some cause) rest why own = why

hear_why : (m : List ℕ) (h : Handshake) (s : Subtype) (sid : ℕ) (b : MsgBody) → first_fault m ≡ None → HandshakeWhy m (handshake_hear h s sid b)
hear_why m h s sid b sound = handshake_if m (is_declined s b) (Goes _) (row h.role h.phase h s sid b) tt (row_why m h.role h.phase h s sid b sound)

pub handshake_why : (m : List ℕ) (h : Handshake) (message : Message) → Spelled m message → HandshakeWhy m (handshake_take h message)
handshake_why m h message spelled = search (or_why, sid_why, hear_why)
