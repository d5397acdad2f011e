-- What the bytes of a message say, as the VIO chapter of the UltraSPARC Virtual Machine Specification and
-- Linux's `struct vio_msg_tag` have it, and the structs that begin with it. Bytes that a message's form
-- doesn't name are free; after the tag of a plain message all are.
use Rattle.std.specs.Prelude.{◌≡◌, ℕ, zero, suc, ◌+◌, ◌*◌, ◌≤◌, List, [], ◌∷◌, ◌++◌, length, take, drop, replicate, ⊤}
use Rattle.std.specs.List.{flat_map}
use Rattle.byteorder.specs.Endian.{big_bytes}
use Rattle.vio_bytes.specs.Place.{number_at}
use Rattle.ldc_packet.specs.Spelling.{subtype_code}
use Rattle.map_table.specs.Cookies.{cookies_at, cookies_bytes}
use Rattle.vio_tag.specs.declared.message.Message.{Message}
use Rattle.vio_tag.specs.declared.message.MsgBody.{MsgBody}
use Rattle.vio_tag.specs.declared.message.MsgBody.TheVariants.{Ver, Attr, DringReg, DringUnreg, Rdx, DringData, Mcast, Plain}

-- CTRL 1, DATA 2
abbrev pub type_code : MsgBody → ℕ
type_code (Ver major minor class) = 1
type_code (Attr bytes) = 1
type_code (DringReg ident slots slot_size options count cookies) = 1
type_code (DringUnreg ident) = 1
type_code Rdx = 1
type_code (DringData seq ident start end state) = 2
type_code (Mcast set count addresses) = 1
type_code (Plain envelope) = 2

-- VER_INFO 1, ATTR_INFO 2, DRING_REG 3, DRING_UNREG 4, RDX 5, DRING_DATA 0x42, VNET_MCAST_INFO 0x101;
-- a plain message's own
abbrev pub envelope_code : MsgBody → ℕ
envelope_code (Ver major minor class) = 0x0001
envelope_code (Attr bytes) = 0x0002
envelope_code (DringReg ident slots slot_size options count cookies) = 0x0003
envelope_code (DringUnreg ident) = 0x0004
envelope_code Rdx = 0x0005
envelope_code (DringData seq ident start end state) = 0x0042
envelope_code (Mcast set count addresses) = 0x0101
envelope_code (Plain envelope) = envelope

-- 56 bytes; a registration's head of 32 bytes and 16 for each cookie; a plain message's tag of 8 bytes, and
-- whatever stands after it
abbrev pub HasLength : ℕ → MsgBody → Type 0
HasLength len (Ver major minor class) = len ≡ 56
HasLength len (Attr bytes) = len ≡ 56
HasLength len (DringReg ident slots slot_size options count cookies) = len ≡ 32 + 16 * count
HasLength len (DringUnreg ident) = len ≡ 56
HasLength len Rdx = len ≡ 56
HasLength len (DringData seq ident start end state) = len ≡ 56
HasLength len (Mcast set count addresses) = len ≡ 56
HasLength len (Plain envelope) = 8 ≤ len

-- the `width` bytes from place `at`
abbrev pub bytes_at : ℕ → ℕ → List ℕ → List ℕ
bytes_at width at bytes = take width (drop at bytes)

-- the `count` addresses of 6 bytes that stand one after another from place `at`
abbrev pub addresses_at : ℕ → ℕ → List ℕ → List (List ℕ)
addresses_at at zero bytes = []
addresses_at at (suc count) bytes = bytes_at 6 at bytes ∷ addresses_at (at + 6) count bytes

-- the fields of the tag
abbrev pub type_at : List ℕ → ℕ
type_at bytes = number_at 1 0 bytes

abbrev pub subtype_at : List ℕ → ℕ
subtype_at bytes = number_at 1 1 bytes

abbrev pub envelope_at : List ℕ → ℕ
envelope_at bytes = number_at 2 2 bytes

abbrev pub sid_at : List ℕ → ℕ
sid_at bytes = number_at 4 4 bytes

-- how many cookies a registration says that it has
abbrev pub count_at : List ℕ → ℕ
count_at bytes = number_at 4 28 bytes

-- the fields after the tag
abbrev pub SpellsBody : List ℕ → MsgBody → Type 0
SpellsBody bytes (Ver major minor class) =
    (major ≡ number_at 2 8 bytes) × (minor ≡ number_at 2 10 bytes) × (class ≡ number_at 1 12 bytes)
SpellsBody bytes (Attr attr) = attr ≡ bytes_at 48 8 bytes
SpellsBody bytes (DringReg ident slots slot_size options count cookies) =
    (ident ≡ number_at 8 8 bytes) × (slots ≡ number_at 4 16 bytes) × (slot_size ≡ number_at 4 20 bytes)
    × (options ≡ number_at 2 24 bytes) × (count ≡ count_at bytes) × (take count cookies ≡ cookies_at 32 count bytes)
SpellsBody bytes (DringUnreg ident) = ident ≡ number_at 8 8 bytes
SpellsBody bytes Rdx = ⊤
SpellsBody bytes (DringData seq ident start end state) =
    (seq ≡ number_at 8 8 bytes) × (ident ≡ number_at 8 16 bytes) × (start ≡ number_at 4 24 bytes)
    × (end ≡ number_at 4 28 bytes) × (state ≡ number_at 1 32 bytes)
SpellsBody bytes (Mcast set count addresses) =
    (set ≡ number_at 1 8 bytes) × (count ≡ number_at 1 9 bytes) × (addresses ≡ addresses_at 10 7 bytes)
SpellsBody bytes (Plain envelope) = ⊤

-- the bytes have each field of the message at its place
pub record SpellsMessage (bytes : List ℕ) (message : Message) : Type 0 where
  pub kind : type_at bytes ≡ type_code message.body
  pub subtype : subtype_at bytes ≡ subtype_code message.subtype
  pub envelope : envelope_at bytes ≡ envelope_code message.body
  pub sid : message.sid ≡ sid_at bytes
  pub long : HasLength (length bytes) message.body
  pub body : SpellsBody bytes message.body

-- what the bytes say of a body of this type: its envelope, its length and its fields
pub record SpellsBodyOf (kind : ℕ) (bytes : List ℕ) (body : MsgBody) : Type 0 where
  pub type : type_code body ≡ kind
  pub envelope : envelope_at bytes ≡ envelope_code body
  pub long : HasLength (length bytes) body
  pub fields : SpellsBody bytes body

-- the canonical spelling's 8 bytes of the tag
abbrev pub tag_bytes : Message → List ℕ
tag_bytes message =
    type_code message.body ∷ subtype_code message.subtype
    ∷ (big_bytes 2 (envelope_code message.body) ++ big_bytes 4 message.sid)

-- those after the tag: the fields, and zeros elsewhere
abbrev pub body_bytes : MsgBody → List ℕ
body_bytes (Ver major minor class) = big_bytes 2 major ++ big_bytes 2 minor ++ big_bytes 1 class ++ replicate 43 0
body_bytes (Attr bytes) = bytes
body_bytes (DringReg ident slots slot_size options count cookies) =
    big_bytes 8 ident ++ big_bytes 4 slots ++ big_bytes 4 slot_size ++ big_bytes 2 options ++ replicate 2 0
    ++ big_bytes 4 count ++ cookies_bytes (take count cookies)
body_bytes (DringUnreg ident) = big_bytes 8 ident ++ replicate 40 0
body_bytes Rdx = replicate 48 0
body_bytes (DringData seq ident start end state) =
    big_bytes 8 seq ++ big_bytes 8 ident ++ big_bytes 4 start ++ big_bytes 4 end ++ big_bytes 1 state ++ replicate 23 0
body_bytes (Mcast set count addresses) =
    big_bytes 1 set ++ big_bytes 1 count ++ flat_map (λ address. address) addresses ++ replicate 4 0
body_bytes (Plain envelope) = []

-- the canonical spelling
unfoldable pub canonical : Message → List ℕ
canonical message = tag_bytes message ++ body_bytes message.body
