-- What 64 bytes say, as the LDC chapter of the UltraSPARC Virtual Machine Specification and Linux's
-- `struct ldc_packet` have it. Bytes that a packet's form doesn't name are free.
use Rattle.std.specs.Prelude.{◌≡◌, ℕ, ◌+◌, Bool, true, false, List, ◌∷◌, ◌++◌, length, take, drop, replicate}
use Rattle.vio_bytes.specs.Place.{big_bytes, number_at}
use Rattle.ldc_packet.specs.declared.packet.Body.{Body}
use Rattle.ldc_packet.specs.declared.packet.Body.TheVariants.{Vers, Rts, Rtr, Rdx, Part}
use Rattle.ldc_packet.specs.declared.packet.Packet.{Packet}
use Rattle.ldc_packet.specs.declared.packet.Subtype.{Subtype}
use Rattle.ldc_packet.specs.declared.packet.Subtype.TheVariants.{Info, Ack, Nack}

-- CTRL 1, DATA 2
abbrev pub type_code : Body → ℕ
type_code (Vers major minor) = 1
type_code (Rts mode) = 1
type_code (Rtr mode) = 1
type_code Rdx = 1
type_code (Part start stop len bytes) = 2

-- INFO 1, ACK 2, NACK 4
abbrev pub subtype_code : Subtype → ℕ
subtype_code Info = 1
subtype_code Ack = 2
subtype_code Nack = 4

-- a flag where it stands
abbrev pub flag : Bool → ℕ → ℕ
flag true bit = bit
flag false bit = 0

-- the env byte of a part: the length in the low six bits, START 0x40, STOP 0x80
abbrev pub part_env : Bool → Bool → ℕ → ℕ
part_env start stop len = flag stop 0x80 + flag start 0x40 + len

-- the fields of a packet's bytes
abbrev pub type_at : List ℕ → ℕ
type_at bytes = number_at 1 0 bytes

abbrev pub subtype_at : List ℕ → ℕ
subtype_at bytes = number_at 1 1 bytes

abbrev pub ctrl_at : List ℕ → ℕ
ctrl_at bytes = number_at 1 2 bytes

abbrev pub env_at : List ℕ → ℕ
env_at bytes = number_at 1 3 bytes

abbrev pub seqid_at : List ℕ → ℕ
seqid_at bytes = number_at 4 4 bytes

abbrev pub payload_at : List ℕ → List ℕ
payload_at bytes = drop 8 bytes

-- the fields that the form of the body names: VERS 1, RTS 2, RTR 3, RDX 4
abbrev pub SpellsBody : List ℕ → Body → Type 0
SpellsBody bytes (Vers major minor) =
    (ctrl_at bytes ≡ 1) × (number_at 2 8 bytes ≡ major) × (number_at 2 10 bytes ≡ minor)
SpellsBody bytes (Rts mode) = (ctrl_at bytes ≡ 2) × (env_at bytes ≡ mode)
SpellsBody bytes (Rtr mode) = (ctrl_at bytes ≡ 3) × (env_at bytes ≡ mode)
SpellsBody bytes Rdx = ctrl_at bytes ≡ 4
SpellsBody bytes (Part start stop len part) =
    (env_at bytes ≡ part_env start stop len) × (take len (payload_at bytes) ≡ take len part)

-- the 64 bytes have each field of the packet at its place
pub record SpellsPacket (bytes : List ℕ) (packet : Packet) : Type 0 where
  pub size : length bytes ≡ 64
  pub kind : type_at bytes ≡ type_code packet.body
  pub subtype : subtype_at bytes ≡ subtype_code packet.subtype
  pub seqid : seqid_at bytes ≡ packet.seqid
  pub body : SpellsBody bytes packet.body

-- the third byte of the canonical spelling, which has zeros where the form names no field
abbrev pub ctrl_byte : Body → ℕ
ctrl_byte (Vers major minor) = 1
ctrl_byte (Rts mode) = 2
ctrl_byte (Rtr mode) = 3
ctrl_byte Rdx = 4
ctrl_byte (Part start stop len bytes) = 0

-- its fourth byte
abbrev pub env_byte : Body → ℕ
env_byte (Vers major minor) = 0
env_byte (Rts mode) = mode
env_byte (Rtr mode) = mode
env_byte Rdx = 0
env_byte (Part start stop len bytes) = part_env start stop len

-- its last 56 bytes
abbrev pub payload : Body → List ℕ
payload (Vers major minor) = big_bytes 2 major ++ (big_bytes 2 minor ++ replicate 52 0)
payload (Rts mode) = replicate 56 0
payload (Rtr mode) = replicate 56 0
payload Rdx = replicate 56 0
payload (Part start stop len bytes) = bytes

-- the canonical spelling: the fields of the packet, and zeros elsewhere
unfoldable pub canonical : Packet → List ℕ
canonical packet =
    type_code packet.body ∷ subtype_code packet.subtype ∷ ctrl_byte packet.body ∷ env_byte packet.body
    ∷ (big_bytes 4 packet.seqid ++ payload packet.body)
