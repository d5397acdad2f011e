-- What an end's handshake rests on: the messages that it heard since it last began. Its phase says which of them it has taken.
use Rattle.std.specs.Prelude.{◌≡◌, ℕ, ◌⊎◌, ◌≤◌, Bool, true, false, ◌&&◌, ◌||◌, List, [], ◌∷◌, Some, min, ⊤}
use Rattle.ldc_link.specs.declared.phase.Role.{Role}
use Rattle.ldc_link.specs.declared.phase.Role.TheVariants.{Initiator, Responder}
use Rattle.map_table.specs.declared.cookie.Cookie.{Cookie}
use Rattle.vio_tag.specs.declared.message.Message.{Message}
use Rattle.vio_tag.specs.declared.message.MsgBody.TheVariants.{Ver, DringReg}
use Rattle.vio_tag.specs.Form.{IsWellFormed}
use Rattle.vio_tag.specs.Spelling.{SpellsMessage}
use Rattle.vio_handshake.specs.declared.handshake.Handshake.{Handshake}
use Rattle.vio_handshake.specs.declared.handshake.Phase.{Phase}
use Rattle.vio_handshake.specs.declared.handshake.Phase.TheVariants.{Attributes, Down, Open, OwnReady, OwnRing, PeerReady, PeerReadyTaken, PeerRing, PeerRingTaken, Version}
use Rattle.vio_handshake.specs.declared.session.Session.{Session}
use Rattle.vio_handshake.specs.Messages.{ack, info}
use Rattle.vio_handshake.specs.State.{session_of}

-- one of the messages spells this one
abbrev pub Among : Message → List (List ℕ) → Type 0
Among message [] = ⊥
Among message (bytes ∷ others) = (IsWellFormed message × SpellsMessage bytes message) ⊎ Among message others

-- in which phases the sid, the version and a ring are agreed on
abbrev pub is_initiator : Role → Bool
is_initiator Initiator = true
is_initiator Responder = false

abbrev pub is_responder : Role → Bool
is_responder Initiator = false
is_responder Responder = true

abbrev pub knows_sid : Phase → Role → Bool
knows_sid Down role = false
knows_sid Version role = is_initiator role
knows_sid Attributes role = true
knows_sid OwnRing role = true
knows_sid PeerRing role = true
knows_sid PeerRingTaken role = true
knows_sid OwnReady role = true
knows_sid PeerReady role = true
knows_sid PeerReadyTaken role = true
knows_sid Open role = true

abbrev pub knows_version : Phase → Bool
knows_version Down = false
knows_version Version = false
knows_version Attributes = true
knows_version OwnRing = true
knows_version PeerRing = true
knows_version PeerRingTaken = true
knows_version OwnReady = true
knows_version PeerReady = true
knows_version PeerReadyTaken = true
knows_version Open = true

-- in which phases an end has agreed to the other's ring
abbrev pub has_named : Role → Phase → Bool
has_named role Down = false
has_named role Version = false
has_named role Attributes = false
has_named role OwnRing = is_responder role
has_named role PeerRing = false
has_named role PeerRingTaken = true
has_named role OwnReady = true
has_named role PeerReady = true
has_named role PeerReadyTaken = true
has_named role Open = true

-- and in which its own ring was agreed to, or it knows the other's: an initiator has a ring and knows one where both ends have, a responder
-- has one where both do
abbrev pub knows_own : Role → Bool → Phase → Bool
knows_own role both Down = false
knows_own role both Version = false
knows_own role both Attributes = false
knows_own role both OwnRing = false
knows_own role both PeerRing = is_initiator role
knows_own role both PeerRingTaken = is_initiator role
knows_own role both OwnReady = is_initiator role || both
knows_own role both PeerReady = is_initiator role || both
knows_own role both PeerReadyTaken = is_initiator role || both
knows_own role both Open = is_initiator role || both

abbrev pub knows_peer : Role → Bool → Phase → Bool
knows_peer role both phase = has_named role phase && (is_responder role || both)

-- The version that is agreed on: an initiator heard the agreement to it, a responder the offer of one, of which it took the smaller minor.
abbrev pub VersionHeard : Role → ℕ → Session → List (List ℕ) → Type 0
VersionHeard Initiator own draft messages = (class : ℕ) × Among (ack draft.sid (Ver 1 draft.minor class)) messages × (draft.minor ≤ own)
VersionHeard Responder own draft messages =
    (minor class : ℕ) × Among (info draft.sid (Ver 1 minor class)) messages × (draft.minor ≡ min minor own)

-- The own ring: the end heard the agreement to it, with the number that the other has for it. The other's: it heard the registration of it,
-- with the slots and the cookies that it knows.
abbrev pub OwnHeard : Session → List (List ℕ) → Type 0
OwnHeard draft messages =
    (slots slot_size options count : ℕ) × (cookies : List Cookie) × Among (ack draft.sid (DringReg draft.ident_own slots slot_size options count cookies)) messages

abbrev pub PeerHeard : Session → List (List ℕ) → Type 0
PeerHeard draft messages =
    (ident slot_size options : ℕ)
    × Among (info draft.sid (DringReg ident draft.peer_slots slot_size options draft.peer_count draft.peer_cookies)) messages
    × (draft.ident_peer ≡ draft.sid)

abbrev pub When : Bool → Type 0 → Type 0
When true holds = holds
When false holds = ⊤

-- a handshake of this role, where it is in this phase
pub record RestsIn (role : Role) (phase : Phase) (h : Handshake) (messages : List (List ℕ)) : Type 0 where
  pub role_is : h.role ≡ role
  pub sid : When (knows_sid phase role) (h.sid ≡ Some h.draft.sid)
  pub version : When (knows_version phase) (VersionHeard role h.offer.minor h.draft messages)
  pub own : When (knows_own role h.offer.both_rings phase) (OwnHeard h.draft messages)
  pub peer : When (knows_peer role h.offer.both_rings phase) (PeerHeard h.draft messages)

abbrev pub RestsOn : Role → Handshake → List (List ℕ) → Type 0
RestsOn role h messages = RestsIn role h.phase h messages

-- AN OPEN SESSION: its sid is known, and the version and the rings were agreed on by messages that the end heard
pub record OpenRests (role : Role) (h : Handshake) (messages : List (List ℕ)) : Type 0 where
  pub is_open : session_of h ≡ Some h.draft
  pub sid : h.sid ≡ Some h.draft.sid
  pub version : VersionHeard role h.offer.minor h.draft messages
  pub own : When (is_initiator role || h.offer.both_rings) (OwnHeard h.draft messages)
  pub peer : When (is_responder role || h.offer.both_rings) (PeerHeard h.draft messages)
