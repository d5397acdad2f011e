-- A net descriptor as 64 bytes (`struct vio_net_desc` of Linux's vio.h). Bytes that no field names are free; the
-- canonical spelling has zeros there.
use Rattle.std.specs.Prelude.{◌≡◌, ℕ, ◌^◌, ◌<◌, List, ◌++◌, length, replicate}
use Rattle.std.specs.List.{AllByRecursion}
use Rattle.byteorder.specs.Endian.{big_bytes}
use Rattle.vio_bytes.specs.Place.{number_at}
use Rattle.map_table.specs.Cookies.{IsCookie, cookies_at, cookies_bytes}
use Rattle.map_table.specs.declared.cookie.Cookie.{Cookie}
use Rattle.vnet_msg.specs.declared.desc.NetDesc.{NetDesc}

-- the number at each field's place, and these cookies
abbrev pub net_desc_with : List ℕ → List Cookie → NetDesc
net_desc_with bytes cookies = record {
  state = number_at 1 0 bytes;
  ack = number_at 1 1 bytes;
  size = number_at 4 8 bytes;
  count = number_at 4 12 bytes;
  cookies = cookies;
}

-- the descriptor of 64 bytes: its fields, and the three cookies after them
abbrev pub net_desc_of : List ℕ → NetDesc
net_desc_of bytes = net_desc_with bytes (cookies_at 16 3 bytes)

-- each field of the head has a number of its width
pub record HeadHasWidths (desc : NetDesc) : Type 0 where
  pub state : desc.state < 2 ^ 8
  pub ack : desc.ack < 2 ^ 8
  pub size : desc.size < 2 ^ 32
  pub count : desc.count < 2 ^ 32

-- and there are three cookies: so each `NetDesc` is
pub record HasWidths (desc : NetDesc) : Type 0 where
  pub head : HeadHasWidths desc
  pub three : length desc.cookies ≡ 3
  pub cookies : AllByRecursion IsCookie desc.cookies

-- the 16 bytes before the cookies
abbrev pub head_bytes : NetDesc → List ℕ
head_bytes desc =
    big_bytes 1 desc.state ++ big_bytes 1 desc.ack ++ replicate 6 0
    ++ big_bytes 4 desc.size
    ++ big_bytes 4 desc.count

-- the canonical spelling
abbrev pub canonical : NetDesc → List ℕ
canonical desc = head_bytes desc ++ cookies_bytes desc.cookies
