-- The descriptor by which a disk's client asks for a request, and what its server writes into it.
use Rattle.std.specs.Prelude.{ℕ, ◌+◌, ◌*◌, ◌/◌, nat_lt, if◌then◌else◌, List, [], ◌∷◌, ◌++◌, replicate}
use Rattle.byteorder.specs.Endian.{big_bytes}
use Rattle.vio_bytes.specs.Range.{range_at}
use Rattle.map_table.specs.Cookies.{no_cookie}
use Rattle.map_table.specs.declared.cookie.Cookie.{Cookie}
use Rattle.vdisk_msg.specs.declared.desc.DiskDesc.{DiskDesc}
use Rattle.vdisk_msg.specs.declared.request.Request.{Request}
use Rattle.vdisk_msg.specs.declared.request.Request.TheVariants.{Read, Write, Flush}
use Rattle.vdisk_msg.specs.Requests.{operation_of}

-- the pages at the front of a client's memory that hold a ring of so many slots of 128 bytes
abbrev pub ring_pages : ℕ → ℕ
ring_pages slots = (128 * slots + 8191) / 8192

-- after them each slot has four pages for its data
abbrev pub buffer_place : ℕ → ℕ → ℕ
buffer_place slots slot = 8192 * (ring_pages slots + 4 * slot)

-- the first bytes of a slot's buffer
abbrev pub buffer_of : ℕ → ℕ → ℕ → List ℕ → List ℕ
buffer_of slots slot size memory = range_at (buffer_place slots slot) size memory

-- a request's first block, and its bytes; a flush has neither
abbrev pub block_of : Request → ℕ
block_of (Read block count) = block
block_of (Write block count fill) = block
block_of Flush = 0

abbrev pub size_of : Request → ℕ
size_of (Read block count) = 512 * count
size_of (Write block count fill) = 512 * count
size_of Flush = 0

-- The one cookie of a buffer from a place on, with the whole size; a request that moves nothing has none. Page i is
-- granted at index i.
abbrev pub buffer_cookie : ℕ → ℕ → Cookie
buffer_cookie place size = if nat_lt 0 size then record { address = place; size = size } else no_cookie

-- the last four of five are never used
unfoldable pub buffer_cookies : ℕ → ℕ → List Cookie
buffer_cookies place size = buffer_cookie place size ∷ no_cookie ∷ no_cookie ∷ no_cookie ∷ no_cookie ∷ []

-- how many of them are used
abbrev pub cookie_count : ℕ → ℕ
cookie_count size = if nat_lt 0 size then 1 else 0

-- the descriptor of request `id` in a slot of a ring of so many slots: READY, and an acknowledgement is asked for
unfoldable pub descriptor_of : ℕ → Request → ℕ → ℕ → DiskDesc
descriptor_of id request slot slots = record {
  state = 2;
  ack = 1;
  id = id;
  operation = operation_of request;
  slice = 0xff;
  status = 0;
  offset = block_of request;
  size = size_of request;
  count = cookie_count (size_of request);
  cookies = buffer_cookies (buffer_place slots slot) (size_of request);
}

-- the header that a server writes: the state, the ack as it was fetched, and zeros
abbrev pub header : ℕ → ℕ → List ℕ
header state ack = big_bytes 1 state ++ big_bytes 1 ack ++ replicate 6 0

-- the eight bytes from place 16 on with a status in them, and the others as they were fetched
abbrev pub status_word : List ℕ → ℕ → List ℕ
status_word fetched status = range_at 16 4 fetched ++ big_bytes 4 status
