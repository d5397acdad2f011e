-- A disk descriptor as 128 bytes (`struct vio_disk_desc` of Linux's vio.h). Bytes that no field names are
-- free; the canonical spelling has zeros there.
use Rattle.std.specs.Prelude.{◌≡◌, ℕ, ◌^◌, ◌<◌, List, ◌++◌, length, replicate}
use Rattle.std.specs.List.{AllByRecursion}
use Rattle.byteorder.specs.Endian.{big_bytes}
use Rattle.vio_bytes.specs.Place.{number_at}
use Rattle.map_table.specs.Cookies.{IsCookie, cookies_at, cookies_bytes}
use Rattle.map_table.specs.declared.cookie.Cookie.{Cookie}
use Rattle.vdisk_msg.specs.declared.desc.DiskDesc.{DiskDesc}

-- the number at each field's place, and these cookies
abbrev pub disk_desc_with : List ℕ → List Cookie → DiskDesc
disk_desc_with bytes cookies = record {
  state = number_at 1 0 bytes;
  ack = number_at 1 1 bytes;
  id = number_at 8 8 bytes;
  operation = number_at 1 16 bytes;
  slice = number_at 1 17 bytes;
  status = number_at 4 20 bytes;
  offset = number_at 8 24 bytes;
  size = number_at 8 32 bytes;
  count = number_at 4 40 bytes;
  cookies = cookies;
}

-- the descriptor of 128 bytes: its fields, and the five cookies after them
abbrev pub disk_desc_of : List ℕ → DiskDesc
disk_desc_of bytes = disk_desc_with bytes (cookies_at 48 5 bytes)

-- each field of the head has a number of its width
pub record HeadHasWidths (desc : DiskDesc) : Type 0 where
  pub state : desc.state < 2 ^ 8
  pub ack : desc.ack < 2 ^ 8
  pub id : desc.id < 2 ^ 64
  pub operation : desc.operation < 2 ^ 8
  pub slice : desc.slice < 2 ^ 8
  pub status : desc.status < 2 ^ 32
  pub offset : desc.offset < 2 ^ 64
  pub size : desc.size < 2 ^ 64
  pub count : desc.count < 2 ^ 32

-- and there are five cookies: so each `DiskDesc` is
pub record HasWidths (desc : DiskDesc) : Type 0 where
  pub head : HeadHasWidths desc
  pub five : length desc.cookies ≡ 5
  pub cookies : AllByRecursion IsCookie desc.cookies

-- the 48 bytes before the cookies
abbrev pub head_bytes : DiskDesc → List ℕ
head_bytes desc =
    big_bytes 1 desc.state ++ big_bytes 1 desc.ack ++ replicate 6 0
    ++ big_bytes 8 desc.id
    ++ big_bytes 1 desc.operation ++ big_bytes 1 desc.slice ++ replicate 2 0 ++ big_bytes 4 desc.status
    ++ big_bytes 8 desc.offset
    ++ big_bytes 8 desc.size
    ++ big_bytes 4 desc.count ++ replicate 4 0

-- the canonical spelling
abbrev pub canonical : DiskDesc → List ℕ
canonical desc = head_bytes desc ++ cookies_bytes desc.cookies
