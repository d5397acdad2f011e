-- The places of a handshake between two ends whose offers match: by how many of its messages an end has put or taken. A
-- disk's has no registration of the responder's ring.
use Rattle.std.proofs.Common.{ℕ, Bool, true, false, Option, Some, None, min}
use Rattle.std.specs.Prelude.{⊤}
use Rattle.ldc_link.specs.declared.phase.Role.{Role}
use Rattle.ldc_link.specs.declared.phase.Role.TheVariants.{Initiator, Responder}
use Rattle.vio_tag.specs.declared.message.Message.{Message}
use Rattle.vio_tag.specs.declared.message.MsgBody.{MsgBody}
use Rattle.vio_tag.specs.declared.message.MsgBody.TheVariants.{Ver, Attr, DringReg, Rdx}
use Rattle.vio_handshake.specs.Attributes.{answered_attributes, said_attributes}
use Rattle.vio_handshake.specs.Messages.{ack, info, own_ring}
use Rattle.vio_handshake.specs.Rules.{behind_ring}
use Rattle.vio_handshake.specs.State.{no_session}
use Rattle.vio_handshake.specs.declared.session.Offer.{Offer}
use Rattle.vio_handshake.specs.declared.session.Session.{Session}
use Rattle.vio_handshake.specs.declared.handshake.Handshake.{Handshake}
use Rattle.vio_handshake.specs.declared.handshake.Phase.{Phase}
use Rattle.vio_handshake.specs.declared.handshake.Phase.TheVariants.{Version, Attributes, OwnRing, PeerRing, PeerRingTaken, OwnReady, PeerReady, PeerReadyTaken, Open}

-- each is named by the message that comes next
pub data Place : Type 0 where
  VersionSaid : Place
  VersionAnswered : Place
  AttributesSaid : Place
  AttributesAnswered : Place
  RingSaid : Place
  RingAnswered : Place
  PeerRingSaid : Place
  PeerRingAnswered : Place
  ReadySaid : Place
  ReadyAnswered : Place
  PeerReadySaid : Place
  PeerReadyAnswered : Place
  AllSaid : Place

-- the two offers, the session's number, and the responder's own count of sessions
pub record Deal : Type 0 where
  pub asks : Offer
  pub answers : Offer
  pub sid : ℕ
  pub last : ℕ

abbrev pub next : Bool → Place → Place
next both VersionSaid = VersionAnswered
next both VersionAnswered = AttributesSaid
next both AttributesSaid = AttributesAnswered
next both AttributesAnswered = RingSaid
next both RingSaid = RingAnswered
next true RingAnswered = PeerRingSaid
next false RingAnswered = ReadySaid
next both PeerRingSaid = PeerRingAnswered
next both PeerRingAnswered = ReadySaid
next both ReadySaid = ReadyAnswered
next both ReadyAnswered = PeerReadySaid
next both PeerReadySaid = PeerReadyAnswered
next both PeerReadyAnswered = AllSaid
next both AllSaid = AllSaid

-- a disk's handshake never comes to the responder's ring
abbrev pub IsPlace : Bool → Place → Type 0
IsPlace false PeerRingSaid = ⊥
IsPlace false PeerRingAnswered = ⊥
IsPlace both place = ⊤

-- who says the next message
abbrev pub owner : Place → Option Role
owner VersionSaid = Some Initiator
owner VersionAnswered = Some Responder
owner AttributesSaid = Some Initiator
owner AttributesAnswered = Some Responder
owner RingSaid = Some Initiator
owner RingAnswered = Some Responder
owner PeerRingSaid = Some Responder
owner PeerRingAnswered = Some Initiator
owner ReadySaid = Some Initiator
owner ReadyAnswered = Some Responder
owner PeerReadySaid = Some Responder
owner PeerReadyAnswered = Some Initiator
owner AllSaid = None

-- the minor that is agreed on
abbrev pub minor_of : Deal → ℕ
minor_of d = min d.asks.minor d.answers.minor

-- an agreement to a ring
abbrev pub named_ring : ℕ → Offer → MsgBody
named_ring sid offer = DringReg sid offer.slots offer.slot_size 1 offer.count offer.cookies

-- the next message; there is none after the last
abbrev pub message_at : Deal → Place → Message
message_at d VersionSaid = info d.sid (Ver 1 d.asks.minor d.asks.class)
message_at d VersionAnswered = ack d.sid (Ver 1 (minor_of d) d.answers.class)
message_at d AttributesSaid = info d.sid (Attr (said_attributes d.asks (minor_of d)))
message_at d AttributesAnswered = ack d.sid (Attr (answered_attributes d.answers (minor_of d) (said_attributes d.asks (minor_of d))))
message_at d RingSaid = info d.sid (own_ring d.asks)
message_at d RingAnswered = ack d.sid (named_ring d.sid d.asks)
message_at d PeerRingSaid = info d.sid (own_ring d.answers)
message_at d PeerRingAnswered = ack d.sid (named_ring d.sid d.answers)
message_at d ReadySaid = info d.sid Rdx
message_at d ReadyAnswered = ack d.sid Rdx
message_at d PeerReadySaid = info d.sid Rdx
message_at d PeerReadyAnswered = ack d.sid Rdx
message_at d AllSaid = info d.sid Rdx

-- what each end waits for there
abbrev pub phase_at : Bool → Role → Place → Phase
phase_at both Initiator VersionSaid = Version
phase_at both Initiator VersionAnswered = Version
phase_at both Initiator AttributesSaid = Attributes
phase_at both Initiator AttributesAnswered = Attributes
phase_at both Initiator RingSaid = OwnRing
phase_at both Initiator RingAnswered = OwnRing
phase_at both Initiator PeerRingSaid = PeerRing
phase_at both Initiator PeerRingAnswered = PeerRingTaken
phase_at both Initiator ReadySaid = OwnReady
phase_at both Initiator ReadyAnswered = OwnReady
phase_at both Initiator PeerReadySaid = PeerReady
phase_at both Initiator PeerReadyAnswered = PeerReadyTaken
phase_at both Initiator AllSaid = Open
phase_at both Responder VersionSaid = Version
phase_at both Responder VersionAnswered = Attributes
phase_at both Responder AttributesSaid = Attributes
phase_at both Responder AttributesAnswered = PeerRing
phase_at both Responder RingSaid = PeerRing
phase_at both Responder RingAnswered = behind_ring both
phase_at both Responder PeerRingSaid = OwnRing
phase_at both Responder PeerRingAnswered = OwnRing
phase_at both Responder ReadySaid = PeerReady
phase_at both Responder ReadyAnswered = PeerReadyTaken
phase_at both Responder PeerReadySaid = OwnReady
phase_at both Responder PeerReadyAnswered = OwnReady
phase_at both Responder AllSaid = Open

-- what is agreed on there
abbrev pub begins : Deal → Session
begins d = record no_session { sid = d.sid }

abbrev pub with_minor : Deal → Session
with_minor d = record (begins d) { minor = minor_of d }

-- the own ring has its number
abbrev pub own_named : Deal → Session → Session
own_named d session = record session { ident_own = d.sid }

-- the peer's ring is known
abbrev pub peer_known : Deal → Offer → Session → Session
peer_known d offer session = record session { ident_peer = d.sid; peer_slots = offer.slots; peer_count = offer.count; peer_cookies = offer.cookies }

-- where both ends have a ring, the initiator knows the responder's in the end, and the responder its own number
abbrev pub asked_in_all : Bool → Deal → Session
asked_in_all true d = peer_known d d.answers (own_named d (with_minor d))
asked_in_all false d = own_named d (with_minor d)

abbrev pub answered_in_all : Bool → Deal → Session
answered_in_all true d = own_named d (peer_known d d.asks (with_minor d))
answered_in_all false d = peer_known d d.asks (with_minor d)

abbrev pub draft_at : Bool → Deal → Role → Place → Session
draft_at both d Initiator VersionSaid = begins d
draft_at both d Initiator VersionAnswered = begins d
draft_at both d Initiator AttributesSaid = with_minor d
draft_at both d Initiator AttributesAnswered = with_minor d
draft_at both d Initiator RingSaid = with_minor d
draft_at both d Initiator RingAnswered = with_minor d
draft_at both d Initiator PeerRingSaid = own_named d (with_minor d)
draft_at both d Initiator PeerRingAnswered = peer_known d d.answers (own_named d (with_minor d))
draft_at both d Initiator place = asked_in_all both d
draft_at both d Responder VersionSaid = no_session
draft_at both d Responder VersionAnswered = with_minor d
draft_at both d Responder AttributesSaid = with_minor d
draft_at both d Responder AttributesAnswered = with_minor d
draft_at both d Responder RingSaid = with_minor d
draft_at both d Responder RingAnswered = peer_known d d.asks (with_minor d)
draft_at both d Responder PeerRingSaid = peer_known d d.asks (with_minor d)
draft_at both d Responder PeerRingAnswered = peer_known d d.asks (with_minor d)
draft_at both d Responder place = answered_in_all both d

-- the responder knows the sid from the first message on
abbrev pub sid_at : Deal → Role → Place → Option ℕ
sid_at d Responder VersionSaid = None
sid_at d role place = Some d.sid

abbrev pub last_at : Deal → Role → ℕ
last_at d Initiator = d.sid
last_at d Responder = d.last

abbrev pub offer_at : Deal → Role → Offer
offer_at d Initiator = d.asks
offer_at d Responder = d.answers

-- the message that its owner says next is owed
abbrev pub owed_by : Role → Option Role → Message → Option Message
owed_by Initiator (Some Initiator) message = Some message
owed_by Responder (Some Responder) message = Some message
owed_by role who message = None

-- an end at a place
abbrev pub handshake_at : Bool → Deal → Role → Place → Handshake
handshake_at both d role place = record {
  role = role;
  offer = offer_at d role;
  phase = phase_at both role place;
  sid = sid_at d role place;
  last_sid = last_at d role;
  owed = owed_by role (owner place) (message_at d place);
  draft = draft_at both d role place;
}
