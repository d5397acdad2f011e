-- What the two ends of a port offer in their handshake.
use Rattle.std.specs.Prelude.{ℕ, ◌*◌, true, List, [], ◌∷◌}
use Rattle.ldc_link.specs.declared.phase.Role.{Role}
use Rattle.ldc_link.specs.declared.phase.Role.TheVariants.{Initiator, Responder}
use Rattle.map_table.specs.declared.cookie.Cookie.{Cookie}
use Rattle.vio_bytes.specs.Place.{number_at}
use Rattle.vio_handshake.specs.declared.session.Offer.{Offer}
use Rattle.vio_tag.specs.Attributes.{net_attr_bytes}
use Rattle.vio_tag.specs.declared.attributes.NetAttr.{NetAttr}
use Rattle.lane_models.specs.OwnMemory.{filled}

-- a ring of so many slots of 64 bytes is below a page: it has one cookie, of its size
abbrev pub ring_cookie : ℕ → Cookie
ring_cookie slots = record { address = 0; size = 64 * slots }

-- the port that an end speaks of, by its address as a number
abbrev pub device_of : List ℕ → NetAttr
device_of address = record {
  mode = 0;
  address_kind = 0;
  ack_freq = 0;
  link = 0;
  options = 0;
  address = number_at 6 0 address;
  mtu = 0;
  cflags = 0;
  lso = 0;
}

-- a guest's class is NETWORK, and that of the switch's end NETWORK_SWITCH
abbrev pub class_of : Role → ℕ
class_of Initiator = 1
class_of Responder = 2

-- the version of both is 1.1; each has a ring of slots of 64 bytes, and expects one of as many slots
abbrev pub port_offer : Role → List ℕ → ℕ → Offer
port_offer role address slots = record {
  minor = 1;
  class = class_of role;
  attr = net_attr_bytes (device_of address);
  slots = slots;
  slot_size = 64;
  count = 1;
  cookies = filled 14 (ring_cookie slots ∷ []);
  both_rings = true;
  peer_slots = slots;
}
