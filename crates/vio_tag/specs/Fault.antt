-- What is wrong with the bytes of a message.
use Rattle.std.specs.Prelude.{ℕ, ◌+◌, ◌*◌, Bool, true, ◌&&◌, ◌||◌, not, nat_lt, nat_le, ◌==◌, if◌then◌else◌, List, length, Option, Some, None}
use Rattle.vio_tag.specs.declared.message.TagFault.{TagFault}
use Rattle.vio_tag.specs.declared.message.TagFault.TheVariants.{Short, Kind, Subtype, Envelope, Length, Cookies}
use Rattle.vio_tag.specs.Spelling.{type_at, subtype_at, envelope_at, count_at}

-- CTRL or DATA
abbrev pub is_type : ℕ → Bool
is_type kind = kind == 1 || kind == 2

-- INFO, ACK or NACK
abbrev pub is_subtype : ℕ → Bool
is_subtype code = code == 1 || code == 2 || code == 4

-- VER_INFO, ATTR_INFO, DRING_REG, DRING_UNREG, RDX and VNET_MCAST_INFO are CTRL; PKT_DATA, DESC_DATA and
-- DRING_DATA are DATA
abbrev pub is_envelope : ℕ → ℕ → Bool
is_envelope kind envelope =
    if kind == 1
    then envelope == 0x0001 || envelope == 0x0002 || envelope == 0x0003 || envelope == 0x0004 || envelope == 0x0005 || envelope == 0x0101
    else envelope == 0x0040 || envelope == 0x0041 || envelope == 0x0042

-- the envelopes of plain messages, PKT_DATA and DESC_DATA
abbrev pub is_plain : ℕ → Bool
is_plain envelope = envelope == 0x0040 || envelope == 0x0041

-- a registration has 32 bytes at least, a plain message any length, and all others 56 bytes
abbrev pub is_length : ℕ → ℕ → Bool
is_length envelope len =
    if envelope == 0x0003 then nat_le 32 len else (is_plain envelope || len == 56)

-- a registration has at most 14 cookies, and 16 bytes for each after its head
abbrev pub is_cookies : ℕ → ℕ → ℕ → Bool
is_cookies envelope count len =
    if envelope == 0x0003 then (nat_le count 14 && len == 32 + 16 * count) else true

-- the first thing that is wrong after the subtype, or none
abbrev pub body_fault : ℕ → ℕ → ℕ → ℕ → Option TagFault
body_fault kind envelope count len =
    if not (is_envelope kind envelope) then Some Envelope
    else if not (is_length envelope len) then Some Length
    else if not (is_cookies envelope count len) then Some Cookies
    else None

-- the first thing that is wrong, or none
abbrev pub first_fault : List ℕ → Option TagFault
first_fault bytes =
    if nat_lt (length bytes) 8 then Some Short
    else if not (is_type (type_at bytes)) then Some Kind
    else if not (is_subtype (subtype_at bytes)) then Some Subtype
    else body_fault (type_at bytes) (envelope_at bytes) (count_at bytes) (length bytes)
