-- What always holds of a handshake by itself, also where somebody forges packets: its role and its offer stay, it owes no message of a session,
-- and the agreement to the other's RDX in one phase alone; and where it has agreed to the other's ring, that has as many slots as it expects.
use Rattle.std.specs.Prelude.{◌≡◌, Bool, true, Option, Some, None, ⊤}
use Rattle.ldc_link.specs.declared.phase.Role.{Role}
use Rattle.ldc_link.specs.declared.phase.Role.TheVariants.{Initiator, Responder}
use Rattle.ldc_packet.specs.declared.packet.Subtype.{Subtype}
use Rattle.ldc_packet.specs.declared.packet.Subtype.TheVariants.{Ack, Nack}
use Rattle.vio_tag.specs.declared.message.Message.{Message}
use Rattle.vio_tag.specs.declared.message.MsgBody.{MsgBody}
use Rattle.vio_tag.specs.declared.message.MsgBody.TheVariants.{DringData, Mcast, Plain, Rdx}
use Rattle.vio_handshake.specs.declared.handshake.Handshake.{Handshake}
use Rattle.vio_handshake.specs.declared.handshake.Phase.{Phase}
use Rattle.vio_handshake.specs.declared.handshake.Phase.TheVariants.{PeerReadyTaken}
use Rattle.vio_handshake.specs.declared.session.Offer.{Offer}
use Rattle.lane_models.specs.Grounds.{has_named}

abbrev pub MayOwe : Phase → Subtype → MsgBody → Type 0
MayOwe phase Nack body = ⊤
MayOwe phase subtype (DringData seq ident start end state) = ⊥
MayOwe phase subtype (Plain envelope) = ⊥
MayOwe phase subtype (Mcast set count addresses) = ⊥
MayOwe phase Ack Rdx = phase ≡ PeerReadyTaken
MayOwe phase subtype body = ⊤

abbrev pub OwedFits : Phase → Option Message → Type 0
OwedFits phase None = ⊤
OwedFits phase (Some message) = MayOwe phase message.subtype message.body

-- an initiator takes a ring where both ends have one
abbrev pub takes_ring : Role → (both_rings : Bool) → Bool
takes_ring Initiator both_rings = both_rings
takes_ring Responder both_rings = true

pub record HandshakeFits (role : Role) (offer : Offer) (h : Handshake) : Type 0 where
  pub role_is : h.role ≡ role
  pub offer_is : h.offer ≡ offer
  pub owed : OwedFits h.phase h.owed
  pub ring : takes_ring role offer.both_rings ≡ true → has_named role h.phase ≡ true → h.draft.peer_slots ≡ offer.peer_slots
