-- What a slot of a ring and its buffer hold of a frame.
use Rattle.std.specs.Prelude.{ℕ, ◌+◌, ◌-◌, ◌*◌, ◌/◌, ◌≤◌, Bool, ◌&&◌, nat_le, if◌then◌else◌, List, [], ◌∷◌, ◌++◌, length, replicate}
use Rattle.byteorder.specs.Endian.{big_bytes}
use Rattle.vio_bytes.specs.Range.{range_at}
use Rattle.map_table.specs.Cookies.{no_cookie}
use Rattle.map_table.specs.declared.cookie.Cookie.{Cookie}
use Rattle.vnet_msg.specs.declared.desc.NetDesc.{NetDesc}

-- A FRAME has 14 to 1,514 bytes
pub record IsFrame (frame : List ℕ) : Type 0 where
  pub least : 14 ≤ length frame
  pub most : length frame ≤ 1514

abbrev pub is_frame_length : ℕ → Bool
is_frame_length n = nat_le 14 n && nat_le n 1514

-- a descriptor may be that of a frame: it has its size, and 1 to 3 cookies
abbrev pub holds_frame : NetDesc → Bool
holds_frame desc = nat_le 14 desc.size && nat_le desc.size 1514 && nat_le 1 desc.count && nat_le desc.count 3

-- THE BUFFER of a frame: six zeros, the frame, and zeros up to a multiple of eight bytes
abbrev pub moved_size : ℕ → ℕ
moved_size size = (size + 13) / 8 * 8

abbrev pub frame_buffer : List ℕ → List ℕ
frame_buffer frame = replicate 6 0 ++ (frame ++ replicate (moved_size (length frame) - (6 + length frame)) 0)

-- the frame of so many bytes in it
abbrev pub frame_in : ℕ → List ℕ → List ℕ
frame_in size buffer = range_at 6 size buffer

-- THE MEMORY of an end: a page of ring, and after it 2,048 bytes for each slot. Page i is granted at index i.
abbrev pub buffer_place : ℕ → ℕ
buffer_place slot = 8192 + 2048 * slot

abbrev pub buffer_pages : ℕ → ℕ
buffer_pages slots = if nat_le 4 slots then slots / 4 else 1

abbrev pub memory_pages : ℕ → ℕ
memory_pages slots = 1 + buffer_pages slots

-- THE DESCRIPTOR of a frame of so many bytes in a slot: READY, no acknowledgement is asked for, and one cookie names
-- the buffer
abbrev pub frame_cookies : ℕ → ℕ → List Cookie
frame_cookies slot size = record { address = buffer_place slot; size = moved_size size } ∷ no_cookie ∷ no_cookie ∷ []

abbrev pub frame_desc : ℕ → ℕ → NetDesc
frame_desc slot size = record { state = 2; ack = 0; size = size; count = 1; cookies = frame_cookies slot size }

-- the header that whoever took a frame writes: the state, the ack as it was fetched, and zeros
abbrev pub header : ℕ → ℕ → List ℕ
header state ack = big_bytes 1 state ++ big_bytes 1 ack ++ replicate 6 0
