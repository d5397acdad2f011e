-- What an end's messages say of its handshake: those that it said since it last began, and the one that it owes.
use Rattle.std.specs.Prelude.{◌≡◌, ◌<◌, ℕ, Bool, true, false, List, [], ◌∷◌, Option, Some, None, ⊤}
use Rattle.ldc_link.specs.declared.phase.Role.{Role}
use Rattle.ldc_link.specs.declared.phase.Role.TheVariants.{Initiator, Responder}
use Rattle.ldc_packet.specs.declared.packet.Subtype.{Subtype}
use Rattle.ldc_packet.specs.declared.packet.Subtype.TheVariants.{Ack, Info}
use Rattle.vio_tag.specs.declared.message.Message.{Message}
use Rattle.vio_tag.specs.declared.message.MsgBody.{MsgBody}
use Rattle.vio_tag.specs.declared.message.MsgBody.TheVariants.{DringReg, Ver}
use Rattle.vio_tag.specs.Spelling.{canonical}
use Rattle.vio_handshake.specs.declared.handshake.Handshake.{Handshake}
use Rattle.vio_handshake.specs.declared.handshake.Phase.{Phase}
use Rattle.vio_handshake.specs.declared.handshake.Phase.TheVariants.{PeerRingTaken}
use Rattle.vio_handshake.specs.declared.session.Offer.{Offer}
use Rattle.vio_handshake.specs.declared.session.Session.{Session}
use Rattle.vio_handshake.specs.Messages.{own_ring}
use Rattle.lane_models.specs.Grounds.{When, has_named, knows_sid, knows_version}

abbrev pub Only : Bool → Type 0 → Type 0
Only true holds = holds
Only false holds = ⊥

-- an initiator has a ring, a responder where both ends have one
abbrev pub HasRing : Role → Offer → Type 0
HasRing Initiator offer = ⊤
HasRing Responder offer = offer.both_rings ≡ true

-- An initiator offers its version, and a responder agrees once, to the one that it holds. An end registers its ring as it offers it, and agrees
-- to the other's once, by the number that it holds.
abbrev pub SaysBody : Role → Phase → Offer → Session → Subtype → MsgBody → Type 0
SaysBody Initiator phase offer draft Info (Ver major minor class) = Ver major minor class ≡ Ver 1 offer.minor offer.class
SaysBody Responder phase offer draft Ack (Ver major minor class) = Only (knows_version phase) (minor ≡ draft.minor)
SaysBody role phase offer draft Info (DringReg ident slots slot_size options count cookies) =
    (DringReg ident slots slot_size options count cookies ≡ own_ring offer) × HasRing role offer
SaysBody role phase offer draft Ack (DringReg ident slots slot_size options count cookies) = Only (has_named role phase) (ident ≡ draft.ident_peer)
SaysBody role phase offer draft subtype body = ⊤

-- each message of an initiator has its sid
abbrev pub SaysSid : Role → Phase → Session → ℕ → Type 0
SaysSid Initiator phase draft sid = When (knows_sid phase Initiator) (sid ≡ draft.sid)
SaysSid Responder phase draft sid = ⊤

abbrev pub SaysByPhase : Role → Phase → Offer → Session → Message → Type 0
SaysByPhase role phase offer draft message = SaysSid role phase draft message.sid × SaysBody role phase offer draft message.subtype message.body

abbrev pub SaysBytes : Role → Phase → Offer → Session → List ℕ → Type 0
SaysBytes role phase offer draft bytes = (message : Message) × (bytes ≡ canonical message) × SaysByPhase role phase offer draft message

abbrev pub SaysEach : Role → Phase → Offer → Session → List (List ℕ) → Type 0
SaysEach role phase offer draft [] = ⊤
SaysEach role phase offer draft (bytes ∷ others) = SaysBytes role phase offer draft bytes × SaysEach role phase offer draft others

abbrev pub OwesSo : Role → Phase → Offer → Session → Option Message → Type 0
OwesSo role phase offer draft None = ⊤
OwesSo role phase offer draft (Some message) = SaysByPhase role phase offer draft message

-- a handshake that said these messages
pub record Utters (role : Role) (h : Handshake) (messages : List (List ℕ)) : Type 0 where
  pub said : SaysEach role h.phase h.offer h.draft messages
  pub owed : OwesSo role h.phase h.offer h.draft h.owed
  -- an initiator's sid is one of 32 bits
  pub small : role ≡ Initiator → knows_sid h.phase Initiator ≡ true → h.draft.sid < 4294967296
  -- an end takes the other's ring where both have one
  pub taken : h.phase ≡ PeerRingTaken → h.offer.both_rings ≡ true
