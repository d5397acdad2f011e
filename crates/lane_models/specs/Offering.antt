-- What the two ends of a disk offer in their handshake.
use Rattle.std.specs.Prelude.{ℕ, ◌*◌, nat_le, false, if◌then◌else◌, List, [], ◌∷◌, replicate, length}
use Rattle.map_table.specs.Cookies.{no_cookie}
use Rattle.map_table.specs.declared.cookie.Cookie.{Cookie}
use Rattle.vdisk_msg.specs.Requested.{ring_pages}
use Rattle.vio_tag.specs.Attributes.{disk_attr_bytes}
use Rattle.vio_tag.specs.declared.attributes.DiskAttr.{DiskAttr}
use Rattle.vio_handshake.specs.declared.session.Offer.{Offer}
use Rattle.lane_models.specs.OwnMemory.{filled, page_cookies}

-- a ring below a page has one cookie, of its size
abbrev pub own_cookies : ℕ → List Cookie
own_cookies slots = if nat_le 64 slots then page_cookies 0 (ring_pages slots) else record { address = 0; size = 128 * slots } ∷ []

-- the disk that an end speaks of, by its number of blocks
abbrev pub disk_of : ℕ → DiskAttr
disk_of blocks = record { mode = 0; kind = 0; media = 0; block_size = 0; operations = 0; blocks = blocks; max_transfer = 0; physical = 0 }

-- a client's version is 1.1, its class DISK, and its ring one of slots of 128 bytes; it expects no ring of its server
abbrev pub client_offer : ℕ → ℕ → Offer
client_offer blocks slots = record {
  minor = 1;
  class = 3;
  attr = disk_attr_bytes (disk_of blocks);
  slots = slots;
  slot_size = 128;
  count = length (own_cookies slots);
  cookies = filled 14 (own_cookies slots);
  both_rings = false;
  peer_slots = 0;
}

-- a server's is 1.1 and DISK_SERVER; it expects a ring of so many slots, and has none
abbrev pub server_offer : ℕ → ℕ → Offer
server_offer blocks slots = record {
  minor = 1;
  class = 4;
  attr = disk_attr_bytes (disk_of blocks);
  slots = 0;
  slot_size = 128;
  count = 0;
  cookies = replicate 14 no_cookie;
  both_rings = false;
  peer_slots = slots;
}
