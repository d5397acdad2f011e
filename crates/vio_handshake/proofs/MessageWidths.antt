-- The messages of a handshake are well formed and of their fields' widths where both offers are, so that their canonical
-- bytes decode to them.
use Rattle.std.proofs.Common.{◌≡◌, ℕ, ◌^◌, ◌<◌, Bool, true, false, List, length, min, refl, arith}
use Rattle.std.specs.List.{AllByRecursion}
use Rattle.std.proofs.Math.Nat.{min-le_left}
use Rattle.map_table.specs.Cookies.{IsCookie}
use Rattle.vio_tag.specs.Attributes.{disk_attr_bytes, disk_attr_of, net_attr_bytes}
use Rattle.vio_tag.specs.Form.{AreCookies, HasWidths, IsWellFormed}
use Rattle.vio_tag.specs.declared.attributes.DiskAttr.{DiskAttr}
use Rattle.vio_tag.specs.declared.attributes.NetAttr.{NetAttr}
use Rattle.vio_handshake.specs.Attributes.{answered_attributes, client_attributes, port_attributes, said_attributes, server_attributes}
use Rattle.vio_handshake.specs.declared.session.Offer.{Offer}
use Rattle.vio_handshake.proofs.Places.{Place, VersionSaid, VersionAnswered, AttributesSaid, AttributesAnswered, RingSaid, RingAnswered, PeerRingSaid, PeerRingAnswered, ReadySaid, ReadyAnswered, PeerReadySaid, PeerReadyAnswered, AllSaid, Deal, message_at, minor_of}

-- each number of the offer is of its field's width, as in a program, and its ring's cookies are well formed
pub record OfferHasWidths (offer : Offer) : Type 0 where
  pub minor : offer.minor < 2 ^ 16
  pub class : offer.class < 2 ^ 8
  pub slots : offer.slots < 2 ^ 32
  pub slot_size : offer.slot_size < 2 ^ 32
  pub room : length offer.cookies ≡ 14
  pub cookies : AllByRecursion IsCookie offer.cookies
  pub form : AreCookies offer.count offer.cookies

disk_long : (attr : DiskAttr) → length (disk_attr_bytes attr) ≡ 48
disk_long attr = refl

net_long : (attr : NetAttr) → length (net_attr_bytes attr) ≡ 48
net_long attr = refl

pub said_long : (both : Bool) (a : Offer) (minor : ℕ) → a.both_rings ≡ both → length (said_attributes a minor) ≡ 48
unfolding said_attributes
said_long true a minor is = rw (is) (net_long (port_attributes a minor))
said_long false a minor is = rw (is) (disk_long client_attributes)

pub answered_long : (both : Bool) (b : Offer) (minor : ℕ) (bytes : List ℕ) → b.both_rings ≡ both → length (answered_attributes b minor bytes) ≡ 48
unfolding answered_attributes
answered_long true b minor bytes is = rw (is) (net_long (port_attributes b minor))
answered_long false b minor bytes is = rw (is) (disk_long (server_attributes b minor (disk_attr_of bytes)))

small_minor : (a b : ℕ) → a < 2 ^ 16 → min a b < 2 ^ 16
small_minor a b fits = omega (arith, min-le_left a b)

sid_fits : (sid : ℕ) → sid < 2 ^ 32 → sid < 2 ^ 64
sid_fits sid fits = omega arith

pub message_has_widths : (d : Deal) (n : Place) → OfferHasWidths d.asks → OfferHasWidths d.answers → d.sid < 2 ^ 32 → HasWidths (message_at d n)
message_has_widths d VersionSaid a b sid = (sid, (omega arith, a.minor, a.class))
message_has_widths d VersionAnswered a b sid = (sid, (omega arith, small_minor d.asks.minor d.answers.minor a.minor, b.class))
message_has_widths d AttributesSaid a b sid = (sid, said_long d.asks.both_rings d.asks (minor_of d) refl)
message_has_widths d AttributesAnswered a b sid = (sid, answered_long d.answers.both_rings d.answers (minor_of d) (said_attributes d.asks (minor_of d)) refl)
message_has_widths d RingSaid a b sid = (sid, (omega arith, a.slots, a.slot_size, omega arith, a.room, a.cookies))
message_has_widths d RingAnswered a b sid = (sid, (sid_fits d.sid sid, a.slots, a.slot_size, omega arith, a.room, a.cookies))
message_has_widths d PeerRingSaid a b sid = (sid, (omega arith, b.slots, b.slot_size, omega arith, b.room, b.cookies))
message_has_widths d PeerRingAnswered a b sid = (sid, (sid_fits d.sid sid, b.slots, b.slot_size, omega arith, b.room, b.cookies))
message_has_widths d ReadySaid a b sid = (sid, tt)
message_has_widths d ReadyAnswered a b sid = (sid, tt)
message_has_widths d PeerReadySaid a b sid = (sid, tt)
message_has_widths d PeerReadyAnswered a b sid = (sid, tt)
message_has_widths d AllSaid a b sid = (sid, tt)

pub message_is_well_formed : (d : Deal) (n : Place) → OfferHasWidths d.asks → OfferHasWidths d.answers → IsWellFormed (message_at d n)
message_is_well_formed d RingSaid a b = a.form
message_is_well_formed d RingAnswered a b = a.form
message_is_well_formed d PeerRingSaid a b = b.form
message_is_well_formed d PeerRingAnswered a b = b.form
message_is_well_formed d VersionSaid a b = tt
message_is_well_formed d n a b = tt
