-- The rules of the handshake: what each state takes of each message, what it owes then, and what follows a message that
-- was put. An acknowledgement and a refusal repeat the fields of what they answer, a version's but for the version.
use Rattle.std.specs.Prelude.{ℕ, Bool, true, false, ◌&&◌, nat_le, ◌==◌, min, if◌then◌else◌, List, Option, Some, None}
use Rattle.ldc_link.specs.declared.phase.Role.{Role}
use Rattle.ldc_link.specs.declared.phase.Role.TheVariants.{Initiator, Responder}
use Rattle.ldc_packet.specs.declared.packet.Subtype.{Subtype}
use Rattle.ldc_packet.specs.declared.packet.Subtype.TheVariants.{Info, Ack, Nack}
use Rattle.map_table.specs.declared.cookie.Cookie.{Cookie}
use Rattle.vio_tag.specs.declared.cause.Cause.{Cause}
use Rattle.vio_tag.specs.declared.cause.Cause.TheVariants.{Sid, Order, Refused}
use Rattle.vio_tag.specs.declared.message.Message.{Message}
use Rattle.vio_tag.specs.declared.message.MsgBody.{MsgBody}
use Rattle.vio_tag.specs.declared.message.MsgBody.TheVariants.{Ver, Attr, DringReg, DringUnreg, Rdx, Plain}
use Rattle.vio_handshake.specs.Acceptance.{accepts_ring}
use Rattle.vio_handshake.specs.Attributes.{accepts_answered, accepts_said, answered_attributes, said_attributes}
use Rattle.vio_handshake.specs.Messages.{ack, info, nack, own_ring}
use Rattle.vio_handshake.specs.declared.session.HsOut.{HsOut}
use Rattle.vio_handshake.specs.declared.session.HsOut.TheVariants.{Nothing, Opens, Fault}
use Rattle.vio_handshake.specs.declared.handshake.Handshake.{Handshake}
use Rattle.vio_handshake.specs.declared.handshake.Phase.{Phase}
use Rattle.vio_handshake.specs.declared.handshake.Phase.TheVariants.{Version, Attributes, OwnRing, PeerRing, PeerRingTaken, OwnReady, PeerReady, PeerReadyTaken, Open}

-- what comes of a message: the handshake goes on, the session opens, or it is refused and nothing changes
pub data HandshakeTake : Type 0 where
  Goes : (s : Handshake) → HandshakeTake
  GoesOpen : (s : Handshake) → HandshakeTake
  Faults : (cause : Cause) → HandshakeTake

-- what a program answered, with the state that it left
abbrev pub taken : HsOut → Handshake → HandshakeTake
taken Nothing s = Goes s
taken Opens s = GoesOpen s
taken (Fault cause) s = Faults cause

-- what an end makes of the answer to its own message: the agreement is judged, the refusal is refused
abbrev pub answered : Subtype → HandshakeTake → HandshakeTake
answered Info judged = Faults Order
answered Ack judged = judged
answered Nack judged = Faults Refused

-- what an end makes of the other's own message
abbrev pub asked : Subtype → HandshakeTake → HandshakeTake
asked Info judged = judged
asked Ack judged = Faults Order
asked Nack judged = Faults Order

-- this message is owed, and then this is waited for
abbrev pub owes : Phase → Message → Handshake → Handshake
owes phase message s = record s { phase = phase; owed = Some message }

-- VER INFO: version 1 is agreed to with the smaller minor, a higher one is refused with the highest that this end has,
-- and version 0 with 0.0. Either way the sid is known from then on
abbrev pub knows : ℕ → Handshake → Handshake
knows sid s = record s { sid = Some sid; draft = record s.draft { sid = sid } }

abbrev pub agrees_minor : ℕ → Handshake → Handshake
agrees_minor minor s = record s { draft = record s.draft { minor = minor } }

abbrev pub refuses_version : ℕ → ℕ → ℕ → ℕ → Handshake → Handshake
refuses_version sid major minor class s = owes Version (nack sid (Ver major minor class)) s

abbrev pub version_asked : Handshake → ℕ → ℕ → ℕ → ℕ → Handshake
version_asked s sid major minor class =
    if major == 1
    then (owes Attributes (ack sid (Ver 1 (min minor s.offer.minor) s.offer.class)) (agrees_minor (min minor s.offer.minor) (knows sid s)))
    else if major == 0 then (refuses_version sid 0 0 class (knows sid s))
    else (refuses_version sid 1 s.offer.minor class (knows sid s))

-- VER ACK: version 1, with a minor up to the own, whose attributes are said
abbrev pub version_answered : Handshake → ℕ → ℕ → ℕ → HandshakeTake
version_answered s sid major minor =
    if major == 1 && nat_le minor s.offer.minor
    then (Goes (owes Attributes (info sid (Attr (said_attributes s.offer minor))) (agrees_minor minor s)))
    else (Faults Refused)

-- ATTR INFO
abbrev pub attributes_asked : Handshake → ℕ → List ℕ → Handshake
attributes_asked s sid bytes =
    if accepts_said s.offer s.draft.minor bytes
    then (owes PeerRing (ack sid (Attr (answered_attributes s.offer s.draft.minor bytes))) s)
    else (owes Attributes (nack sid (Attr bytes)) s)

-- ATTR ACK
abbrev pub attributes_answered : Handshake → ℕ → List ℕ → HandshakeTake
attributes_answered s sid bytes =
    if accepts_answered s.offer s.draft.minor bytes
    then (Goes (owes OwnRing (info sid (own_ring s.offer)) s))
    else (Faults Refused)

-- DRING_REG INFO: the ring's number becomes the sid. Where both ends have a ring, more follows the agreement
abbrev pub behind_ring : Bool → Phase
behind_ring true = PeerRingTaken
behind_ring false = PeerReady

abbrev pub peer_named : Handshake → ℕ → ℕ → ℕ → List Cookie → Handshake
peer_named s sid slots count cookies =
    record s { draft = record s.draft { ident_peer = sid; peer_slots = slots; peer_count = count; peer_cookies = cookies } }

abbrev pub ring_asked : Handshake → ℕ → ℕ → ℕ → ℕ → ℕ → ℕ → List Cookie → Handshake
ring_asked s sid ident slots slot_size options count cookies =
    if accepts_ring s.offer slots slot_size options count cookies
    then (owes (behind_ring s.offer.both_rings) (ack sid (DringReg sid slots slot_size options count cookies)) (peer_named s sid slots count cookies))
    else (owes PeerRing (nack sid (DringReg ident slots slot_size options count cookies)) s)

-- DRING_REG ACK, with any fields: its ident names the own ring. What follows it depends on the end
abbrev pub own_named : Handshake → ℕ → Handshake
own_named s ident = record s { draft = record s.draft { ident_own = ident } }

abbrev pub ring_answered : Role → Handshake → ℕ → ℕ → Handshake
ring_answered Initiator s sid ident =
    if s.offer.both_rings then (record (own_named s ident) { phase = PeerRing })
    else (owes OwnReady (info sid Rdx) (own_named s ident))
ring_answered Responder s sid ident = record (own_named s ident) { phase = PeerReady }

-- RDX ACK: the initiator waits for the responder's RDX, the responder's session opens
abbrev pub ready_answered : Role → Handshake → HandshakeTake
ready_answered Initiator s = Goes (record s { phase = PeerReady })
ready_answered Responder s = GoesOpen (record s { phase = Open })

-- the table: what each state takes of the messages of its session; all else is out of order
abbrev pub row : Role → Phase → Handshake → Subtype → ℕ → MsgBody → HandshakeTake
row Initiator Version s subtype sid (Ver major minor class) = answered subtype (version_answered s sid major minor)
row Responder Version s subtype sid (Ver major minor class) = asked subtype (Goes (version_asked s sid major minor class))
row Initiator Attributes s subtype sid (Attr bytes) = answered subtype (attributes_answered s sid bytes)
row Responder Attributes s subtype sid (Attr bytes) = asked subtype (Goes (attributes_asked s sid bytes))
row role OwnRing s subtype sid (DringReg ident slots slot_size options count cookies) = answered subtype (Goes (ring_answered role s sid ident))
row role PeerRing s subtype sid (DringReg ident slots slot_size options count cookies) = asked subtype (Goes (ring_asked s sid ident slots slot_size options count cookies))
row role OwnReady s subtype sid Rdx = answered subtype (ready_answered role s)
row role PeerReady s subtype sid Rdx = asked subtype (Goes (owes PeerReadyTaken (ack sid Rdx) s))
row role phase s subtype sid body = Faults Order

-- a message of another session, once the sid of this one is known
abbrev pub sid_fault : Option ℕ → ℕ → Option Cause
sid_fault None found = None
sid_fault (Some expected) found = if expected == found then None else Some (Sid expected found)

-- what is declined in every state: data without a ring, and the end of a ring
abbrev pub is_declined : Subtype → MsgBody → Bool
is_declined Info (DringUnreg ident) = true
is_declined Info (Plain envelope) = true
is_declined subtype body = false

-- a message of this session
abbrev pub handshake_hear : Handshake → Subtype → ℕ → MsgBody → HandshakeTake
handshake_hear s subtype sid body =
    if is_declined subtype body then (Goes (record s { owed = Some (nack sid body) }))
    else row s.role s.phase s subtype sid body

abbrev pub fault_or : Option Cause → HandshakeTake → HandshakeTake
fault_or (Some cause) rest = Faults cause
fault_or None rest = rest

-- a message: first its session is looked at, then whether it is declined, then the table
abbrev pub handshake_take : Handshake → Message → HandshakeTake
handshake_take s message = fault_or (sid_fault s.sid message.sid) (handshake_hear s message.subtype message.sid message.body)

-- what follows the message that was put: after the agreement to the peer's ring the own ring, or RDX; after the
-- agreement to the peer's RDX the own RDX, or the session is open
abbrev pub put_in : Role → Phase → Handshake → Handshake
put_in Initiator PeerRingTaken s = owes OwnReady (info s.draft.sid Rdx) s
put_in Responder PeerRingTaken s = owes OwnRing (info s.draft.sid (own_ring s.offer)) s
put_in Initiator PeerReadyTaken s = record s { phase = Open; owed = None }
put_in Responder PeerReadyTaken s = owes OwnReady (info s.draft.sid Rdx) s
put_in role phase s = record s { owed = None }

abbrev pub handshake_sent : Handshake → Handshake
handshake_sent s = put_in s.role s.phase s

-- the initiator's session opens as its last message was put
abbrev pub opens_by_put : Role → Phase → Bool
opens_by_put Initiator PeerReadyTaken = true
opens_by_put role phase = false
