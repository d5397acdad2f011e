-- The attributes of devices: the 48 bytes after the tag of an ATTR_INFO, as Linux's `struct
-- vio_disk_attr_info` and `struct vio_net_attr_info` have them. Bytes that no field names are free.
use Rattle.std.specs.Prelude.{ℕ, ◌^◌, ◌<◌, List, ◌++◌, replicate}
use Rattle.byteorder.specs.Endian.{big_bytes}
use Rattle.vio_bytes.specs.Place.{number_at}
use Rattle.vio_tag.specs.declared.attributes.DiskAttr.{DiskAttr}
use Rattle.vio_tag.specs.declared.attributes.NetAttr.{NetAttr}

-- a disk's attributes: the number at each field's place
abbrev pub disk_attr_of : List ℕ → DiskAttr
disk_attr_of bytes = record {
  mode = number_at 1 0 bytes;
  kind = number_at 1 1 bytes;
  media = number_at 1 2 bytes;
  block_size = number_at 4 4 bytes;
  operations = number_at 8 8 bytes;
  blocks = number_at 8 16 bytes;
  max_transfer = number_at 8 24 bytes;
  physical = number_at 4 32 bytes;
}

-- a network device's attributes, likewise
abbrev pub net_attr_of : List ℕ → NetAttr
net_attr_of bytes = record {
  mode = number_at 1 0 bytes;
  address_kind = number_at 1 1 bytes;
  ack_freq = number_at 2 2 bytes;
  link = number_at 1 4 bytes;
  options = number_at 1 5 bytes;
  address = number_at 8 8 bytes;
  mtu = number_at 8 16 bytes;
  cflags = number_at 2 24 bytes;
  lso = number_at 2 26 bytes;
}

-- the canonical spellings, with zeros in the bytes that no field names
abbrev pub disk_attr_bytes : DiskAttr → List ℕ
disk_attr_bytes attr =
    big_bytes 1 attr.mode ++ big_bytes 1 attr.kind ++ big_bytes 1 attr.media ++ replicate 1 0
    ++ big_bytes 4 attr.block_size
    ++ big_bytes 8 attr.operations
    ++ big_bytes 8 attr.blocks
    ++ big_bytes 8 attr.max_transfer
    ++ big_bytes 4 attr.physical ++ replicate 12 0

abbrev pub net_attr_bytes : NetAttr → List ℕ
net_attr_bytes attr =
    big_bytes 1 attr.mode ++ big_bytes 1 attr.address_kind ++ big_bytes 2 attr.ack_freq
    ++ big_bytes 1 attr.link ++ big_bytes 1 attr.options ++ replicate 2 0
    ++ big_bytes 8 attr.address
    ++ big_bytes 8 attr.mtu
    ++ big_bytes 2 attr.cflags ++ big_bytes 2 attr.lso ++ replicate 20 0

-- each number is of its field's width, as in a program
pub record DiskAttrHasWidths (attr : DiskAttr) : Type 0 where
  pub mode : attr.mode < 2 ^ 8
  pub kind : attr.kind < 2 ^ 8
  pub media : attr.media < 2 ^ 8
  pub block_size : attr.block_size < 2 ^ 32
  pub operations : attr.operations < 2 ^ 64
  pub blocks : attr.blocks < 2 ^ 64
  pub max_transfer : attr.max_transfer < 2 ^ 64
  pub physical : attr.physical < 2 ^ 32

pub record NetAttrHasWidths (attr : NetAttr) : Type 0 where
  pub mode : attr.mode < 2 ^ 8
  pub address_kind : attr.address_kind < 2 ^ 8
  pub ack_freq : attr.ack_freq < 2 ^ 16
  pub link : attr.link < 2 ^ 8
  pub options : attr.options < 2 ^ 8
  pub address : attr.address < 2 ^ 64
  pub mtu : attr.mtu < 2 ^ 64
  pub cflags : attr.cflags < 2 ^ 16
  pub lso : attr.lso < 2 ^ 16
