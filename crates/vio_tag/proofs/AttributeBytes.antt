-- The canonical bytes of attributes read back.
use Rattle.std.proofs.Common.{◌≡◌, ℕ, List, drop}
use Rattle.byteorder.specs.Numbers.{big_number-reads_back}
use Rattle.vio_tag.specs.Attributes.{DiskAttrHasWidths, NetAttrHasWidths, disk_attr_bytes, disk_attr_of, net_attr_bytes, net_attr_of}
use Rattle.vio_tag.specs.declared.attributes.DiskAttr.{DiskAttr}
use Rattle.vio_tag.specs.declared.attributes.NetAttr.{NetAttr}

-- attributes with the same fields are equal
same_disk_attr : (a b : DiskAttr) → a.mode ≡ b.mode → a.kind ≡ b.kind → a.media ≡ b.media → a.block_size ≡ b.block_size → a.operations ≡ b.operations → a.blocks ≡ b.blocks → a.max_transfer ≡ b.max_transfer → a.physical ≡ b.physical → a ≡ b
same_disk_attr a b mode kind media block_size operations blocks max_transfer physical =
    let built : ◌≡◌ {A = DiskAttr}
    (record { mode = a.mode; kind = a.kind; media = a.media; block_size = a.block_size; operations = a.operations; blocks = a.blocks; max_transfer = a.max_transfer; physical = a.physical })
    (record { mode = b.mode; kind = b.kind; media = b.media; block_size = b.block_size; operations = b.operations; blocks = b.blocks; max_transfer = b.max_transfer; physical = b.physical }) = cc in
    built

same_net_attr : (a b : NetAttr) → a.mode ≡ b.mode → a.address_kind ≡ b.address_kind → a.ack_freq ≡ b.ack_freq → a.link ≡ b.link → a.options ≡ b.options → a.address ≡ b.address → a.mtu ≡ b.mtu → a.cflags ≡ b.cflags → a.lso ≡ b.lso → a ≡ b
same_net_attr a b mode address_kind ack_freq link options address mtu cflags lso =
    let built : ◌≡◌ {A = NetAttr}
    (record { mode = a.mode; address_kind = a.address_kind; ack_freq = a.ack_freq; link = a.link; options = a.options; address = a.address; mtu = a.mtu; cflags = a.cflags; lso = a.lso })
    (record { mode = b.mode; address_kind = b.address_kind; ack_freq = b.ack_freq; link = b.link; options = b.options; address = b.address; mtu = b.mtu; cflags = b.cflags; lso = b.lso }) = cc in
    built

pub disk_attr_reads_back : (attr : DiskAttr) → DiskAttrHasWidths attr → disk_attr_of (disk_attr_bytes attr) ≡ attr
disk_attr_reads_back attr fits =
    let bytes : List ℕ = disk_attr_bytes attr in
    same_disk_attr (disk_attr_of bytes) attr
    (big_number-reads_back 1 attr.mode (drop 1 bytes) fits.mode)
    (big_number-reads_back 1 attr.kind (drop 2 bytes) fits.kind)
    (big_number-reads_back 1 attr.media (drop 3 bytes) fits.media)
    (big_number-reads_back 4 attr.block_size (drop 8 bytes) fits.block_size)
    (big_number-reads_back 8 attr.operations (drop 16 bytes) fits.operations)
    (big_number-reads_back 8 attr.blocks (drop 24 bytes) fits.blocks)
    (big_number-reads_back 8 attr.max_transfer (drop 32 bytes) fits.max_transfer)
    (big_number-reads_back 4 attr.physical (drop 36 bytes) fits.physical)

pub net_attr_reads_back : (attr : NetAttr) → NetAttrHasWidths attr → net_attr_of (net_attr_bytes attr) ≡ attr
net_attr_reads_back attr fits =
    let bytes : List ℕ = net_attr_bytes attr in
    same_net_attr (net_attr_of bytes) attr
    (big_number-reads_back 1 attr.mode (drop 1 bytes) fits.mode)
    (big_number-reads_back 1 attr.address_kind (drop 2 bytes) fits.address_kind)
    (big_number-reads_back 2 attr.ack_freq (drop 4 bytes) fits.ack_freq)
    (big_number-reads_back 1 attr.link (drop 5 bytes) fits.link)
    (big_number-reads_back 1 attr.options (drop 6 bytes) fits.options)
    (big_number-reads_back 8 attr.address (drop 16 bytes) fits.address)
    (big_number-reads_back 8 attr.mtu (drop 24 bytes) fits.mtu)
    (big_number-reads_back 2 attr.cflags (drop 26 bytes) fits.cflags)
    (big_number-reads_back 2 attr.lso (drop 28 bytes) fits.lso)
