-- The attributes that an end says and accepts in a session of version 1.0, 1.1 or 1.2. A field "from version 1.1" or
-- "from version 1.2" is zero in a session of a lower one. What a version changes, by its minor:
--                                       0         1         2
--    a disk's medium                    0         1         1
--    its operations                     0x0e      0x0e      0x3e
--    its blocks                         0         their number
--    the bytes of a physical block      0         0         512
--    a port's mode of transfer          3         3         4
use Rattle.std.specs.Prelude.{ℕ, Bool, ◌&&◌, ◌||◌, not, nat_le, nat_lt, ◌==◌, if◌then◌else◌, bit_and, min, List}
use Rattle.vio_tag.specs.Attributes.{disk_attr_bytes, disk_attr_of, net_attr_bytes, net_attr_of}
use Rattle.vio_tag.specs.declared.attributes.DiskAttr.{DiskAttr}
use Rattle.vio_tag.specs.declared.attributes.NetAttr.{NetAttr}
use Rattle.vio_handshake.specs.declared.session.Offer.{Offer}

-- the number of blocks of the disk that is offered
abbrev pub blocks_of : Offer → ℕ
blocks_of offer = (disk_attr_of offer.attr).blocks

-- the address of the port that is offered
abbrev pub address_of : Offer → ℕ
address_of offer = (net_attr_of offer.attr).address

-- a field that came with version 1.1
abbrev pub from_1_1 : ℕ → ℕ → ℕ
from_1_1 minor field = if nat_le 1 minor then field else 0

-- and one that came with version 1.2
abbrev pub from_1_2 : ℕ → ℕ → ℕ
from_1_2 minor field = if nat_le 2 minor then field else 0

-- what a disk does: it reads, writes and flushes, and from version 1.2 tells and sets whether it caches writes
abbrev pub operations_in : ℕ → ℕ
operations_in minor = if nat_le 2 minor then 0x3e else 0x0e

-- by what a port moves frames: by rings of descriptors, whose number is another from version 1.2
abbrev pub port_mode : ℕ → ℕ
port_mode minor = if nat_le 2 minor then 4 else 3

-- a disk's client asks for rings, blocks of 512 bytes, and 64 blocks at most in a request
abbrev pub client_attributes : DiskAttr
client_attributes = record {
  mode = 3;
  kind = 0;
  media = 0;
  block_size = 512;
  operations = 0;
  blocks = 0;
  max_transfer = 64;
  physical = 0;
}

-- its server agrees to these
abbrev pub accepts_client : DiskAttr → Bool
accepts_client attr = attr.mode == 3 && attr.block_size == 512 && not (attr.max_transfer == 0)

-- and answers with a fixed disk
abbrev pub server_attributes : Offer → ℕ → DiskAttr → DiskAttr
server_attributes offer minor asked = record {
  mode = 3;
  kind = 2;
  media = from_1_1 minor 1;
  block_size = 512;
  operations = operations_in minor;
  blocks = from_1_1 minor (blocks_of offer);
  max_transfer = min asked.max_transfer 64;
  physical = from_1_2 minor 512;
}

-- the client agrees to a disk of blocks of 512 bytes that reads, writes and flushes, of its number of blocks, whose
-- physical blocks have 512 bytes too
abbrev pub accepts_server : Offer → ℕ → DiskAttr → Bool
accepts_server offer minor attr =
    attr.kind == 2 && attr.block_size == 512 && bit_and attr.operations 0x0e == 0x0e && attr.max_transfer == 64
    && (nat_lt minor 1 || attr.blocks == blocks_of offer) && (nat_lt minor 2 || attr.physical == 512)

-- both ends of a port say the same: rings, an Ethernet address, and frames of 1,514 bytes at most
abbrev pub port_attributes : Offer → ℕ → NetAttr
port_attributes offer minor = record {
  mode = port_mode minor;
  address_kind = 1;
  ack_freq = 0;
  link = 0;
  options = 0;
  address = address_of offer;
  mtu = 1514;
  cflags = 0;
  lso = 0;
}

-- and agree to exactly that
abbrev pub accepts_port : Offer → ℕ → NetAttr → Bool
accepts_port offer minor attr =
    attr.mode == port_mode minor && attr.address_kind == 1 && attr.ack_freq == 0 && attr.link == 0 && attr.options == 0
    && attr.address == address_of offer && attr.mtu == 1514 && attr.cflags == 0 && attr.lso == 0

-- the bytes of ATTR INFO, which the initiator says
unfoldable pub said_attributes : Offer → ℕ → List ℕ
said_attributes offer minor =
    if offer.both_rings then net_attr_bytes (port_attributes offer minor) else disk_attr_bytes client_attributes

-- whether the responder accepts those bytes
unfoldable pub accepts_said : Offer → ℕ → List ℕ → Bool
accepts_said offer minor bytes =
    if offer.both_rings then accepts_port offer minor (net_attr_of bytes) else accepts_client (disk_attr_of bytes)

-- the bytes of its ATTR ACK
unfoldable pub answered_attributes : Offer → ℕ → List ℕ → List ℕ
answered_attributes offer minor bytes =
    if offer.both_rings then net_attr_bytes (port_attributes offer minor)
    else disk_attr_bytes (server_attributes offer minor (disk_attr_of bytes))

-- whether the initiator accepts those
unfoldable pub accepts_answered : Offer → ℕ → List ℕ → Bool
accepts_answered offer minor bytes =
    if offer.both_rings then accepts_port offer minor (net_attr_of bytes)
    else accepts_server offer minor (disk_attr_of bytes)
