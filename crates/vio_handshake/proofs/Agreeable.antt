-- Offers that match are accepted.
use Rattle.std.proofs.Common.{◌≡◌, ℕ, ◌^◌, ◌<◌, Bool, true, false, sym, refl, min, arith, subst, ap, ◌∙◌}
use Rattle.std.proofs.lemmas.Bool.{eq-eqb, le-leb}
use Rattle.std.proofs.lemmas.Bool.Decides.{nat_tests}
use Rattle.std.proofs.Math.Nat.{min-le_left}
use Rattle.std.specs.Prelude.{◌==◌, ◌||◌, bit_and, if◌then◌else◌, nat_le, nat_lt}
use Rattle.vio_tag.specs.Attributes.{DiskAttrHasWidths, NetAttrHasWidths, disk_attr_bytes, disk_attr_of}
use Rattle.vio_tag.specs.declared.attributes.DiskAttr.{DiskAttr}
use Rattle.vio_tag.proofs.AttributeBytes.{disk_attr_reads_back, net_attr_reads_back}
use Rattle.vio_handshake.specs.Acceptance.{accepts_ring}
use Rattle.vio_handshake.specs.Attributes.{accepts_answered, accepts_client, accepts_port, accepts_said, accepts_server, address_of, answered_attributes, blocks_of, client_attributes, from_1_1, from_1_2, port_attributes, port_mode, said_attributes, server_attributes}
use Rattle.vio_handshake.specs.Offers.{FitsRing, SameDevice}
use Rattle.vio_handshake.specs.declared.session.Offer.{Offer}

pub same_number : (n : ℕ) → (n == n) ≡ true
same_number n = eq-eqb n n refl

-- the server accepts what the client says
client_fits : DiskAttrHasWidths client_attributes
client_fits = record {
  mode = omega arith;
  kind = omega arith;
  media = omega arith;
  block_size = omega arith;
  operations = omega arith;
  blocks = omega arith;
  max_transfer = omega arith;
  physical = omega arith;
}

pub client_read : disk_attr_of (disk_attr_bytes client_attributes) ≡ client_attributes
client_read = disk_attr_reads_back client_attributes client_fits

server_fits : (b : Offer) (minor : ℕ) → blocks_of b < 2 ^ 64 → DiskAttrHasWidths (server_attributes b minor client_attributes)
server_fits b minor few = record {
  mode = omega arith;
  kind = omega arith;
  media = grind (arith, nat_tests);
  block_size = omega arith;
  operations = grind (arith, nat_tests);
  blocks = grind (arith, nat_tests, few);
  max_transfer = omega arith;
  physical = grind (arith, nat_tests);
}

same_blocks : (minor a b : ℕ) → a ≡ b → (nat_lt minor 1 || from_1_1 minor b == a) ≡ true
same_blocks minor a b is = grind (arith, nat_tests)

same_physical : (minor : ℕ) → (nat_lt minor 2 || from_1_2 minor 512 == 512) ≡ true
same_physical minor = grind (arith, nat_tests)

holds_operations : (later : Bool) → (bit_and (if later then 0x3e else 0x0e) 0x0e == 0x0e) ≡ true
holds_operations true = refl
holds_operations false = refl

accepts_answer_of_disk : (a b : Offer) (minor : ℕ) → blocks_of a ≡ blocks_of b → accepts_server a minor (server_attributes b minor client_attributes) ≡ true
accepts_answer_of_disk a b minor is =
    rw (holds_operations (nat_le 2 minor), same_blocks minor (blocks_of a) (blocks_of b) is, same_physical minor) refl

-- and either end of a port what the other says
port_fits : (a : Offer) (minor : ℕ) → address_of a < 2 ^ 64 → NetAttrHasWidths (port_attributes a minor)
port_fits a minor few = record {
  mode = grind (arith, nat_tests);
  address_kind = omega arith;
  ack_freq = omega arith;
  link = omega arith;
  options = omega arith;
  address = few;
  mtu = omega arith;
  cflags = omega arith;
  lso = omega arith;
}

accepts_peer : (a b : Offer) (minor : ℕ) → address_of a ≡ address_of b → accepts_port b minor (port_attributes a minor) ≡ true
accepts_peer a b minor is = rw (same_number (port_mode minor), eq-eqb (address_of a) (address_of b) is) refl

-- so the responder accepts what the initiator says
pub said_accepted : (both : Bool) (a b : Offer) (minor : ℕ) → a.both_rings ≡ both → b.both_rings ≡ both → SameDevice both a b
    → accepts_said b minor (said_attributes a minor) ≡ true
unfolding accepts_said said_attributes
said_accepted false a b minor is peer_is device = rw (is, peer_is) (ap accepts_client client_read)
said_accepted true a b minor is peer_is device =
    rw (is, peer_is)
    (ap (accepts_port b minor) (net_attr_reads_back (port_attributes a minor) (port_fits a minor device.1)) ∙ accepts_peer a b minor device.0)

-- and the initiator the answer
pub answer_accepted : (both : Bool) (a b : Offer) (minor : ℕ) → a.both_rings ≡ both → b.both_rings ≡ both → SameDevice both a b
    → accepts_answered a minor (answered_attributes b minor (said_attributes a minor)) ≡ true
unfolding accepts_answered answered_attributes said_attributes
answer_accepted false a b minor is peer_is device =
    let few : blocks_of b < 2 ^ 64 = subst (λ (n : ℕ). n < 2 ^ 64) device.0 device.1 in
    rw (is, peer_is)
    (ap (λ (asked : DiskAttr). accepts_server a minor (disk_attr_of (disk_attr_bytes (server_attributes b minor asked)))) client_read
    ∙ ap (accepts_server a minor) (disk_attr_reads_back (server_attributes b minor client_attributes) (server_fits b minor few))
    ∙ accepts_answer_of_disk a b minor device.0)
answer_accepted true a b minor is peer_is device =
    let few : address_of b < 2 ^ 64 = subst (λ (n : ℕ). n < 2 ^ 64) device.0 device.1 in
    rw (is, peer_is)
    (ap (accepts_port a minor) (net_attr_reads_back (port_attributes b minor) (port_fits b minor few)) ∙ accepts_peer b a minor (sym device.0))

-- a ring that fits is accepted
pub ring_accepted : (own peer : Offer) → FitsRing own peer → accepts_ring peer own.slots own.slot_size 1 own.count own.cookies ≡ true
unfolding accepts_ring
ring_accepted own peer fits =
    rw (eq-eqb own.slots peer.peer_slots (sym fits.slots), eq-eqb own.slot_size peer.slot_size (sym fits.slot_size), le-leb 1 own.count fits.some, le-leb own.count 14 fits.most, fits.held) refl

pub minor_accepted : (a b : ℕ) → nat_le (min a b) a ≡ true
minor_accepted a b = le-leb (min a b) a (min-le_left a b)
