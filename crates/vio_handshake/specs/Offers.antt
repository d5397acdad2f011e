-- Which two offers make a session.
use Rattle.std.specs.Prelude.{◌≡◌, ◌*◌, ◌^◌, ◌<◌, ◌≤◌, Bool, true, false, take}
use Rattle.vio_handshake.specs.Acceptance.{hold_ring}
use Rattle.vio_handshake.specs.Attributes.{address_of, blocks_of}
use Rattle.vio_handshake.specs.declared.session.Offer.{Offer}

-- the peer expects this end's ring: its size, and cookies that hold it
pub record FitsRing (own peer : Offer) : Type 0 where
  pub slots : peer.peer_slots ≡ own.slots
  pub slot_size : peer.slot_size ≡ own.slot_size
  pub some : 1 ≤ own.count
  pub most : own.count ≤ 14
  pub held : hold_ring (take own.count own.cookies) (own.slots * own.slot_size) ≡ true

-- both speak of one disk by its number of blocks; or of one port by its address, and the initiator expects the
-- responder's ring too. The numbers are of 8 bytes, as in a program
abbrev pub SameDevice : Bool → Offer → Offer → Type 0
SameDevice false a b = (blocks_of a ≡ blocks_of b) × (blocks_of a < 2 ^ 64)
SameDevice true a b = (address_of a ≡ address_of b) × (address_of a < 2 ^ 64) × FitsRing b a

-- the initiator's offer and the responder's: both of a disk or both of a port, the responder expects the initiator's
-- ring, and the device is the same. Minors may differ, and classes aren't looked at
pub record Match (a b : Offer) : Type 0 where
  pub kind : b.both_rings ≡ a.both_rings
  pub ring : FitsRing a b
  pub device : SameDevice a.both_rings a b
