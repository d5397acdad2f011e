-- What a line of 128 hexadecimal digits says: a packet, and the message that a whole packet carries.
use Rattle.std.specs.Prelude.{◌≡◌, ℕ, Bool, true, false, List, [], ◌∷◌, ◌++◌, length, take, Option, Some, None, Result, Ok, Err, ⊤, not}
use Rattle.std.specs.List.{flat_map}
use Rattle.hex.specs.Hex.{decode_of, encode_lower}
use Rattle.ldc_packet.specs.declared.packet.Body.{Body}
use Rattle.ldc_packet.specs.declared.packet.Body.TheVariants.{Vers, Rts, Rtr, Rdx, Part}
use Rattle.ldc_packet.specs.declared.packet.Packet.{Packet}
use Rattle.ldc_packet.specs.declared.packet.PacketFault.{PacketFault}
use Rattle.ldc_packet.specs.Decoding.{Unpacks}
use Rattle.vio_tag.specs.declared.message.Message.{Message}
use Rattle.vio_tag.specs.declared.message.TagFault.{TagFault}
use Rattle.vio_tag.specs.Decoding.{Decodes}
use Rattle.ldom_dump.specs.PacketText.{packet_line}
use Rattle.ldom_dump.specs.MessageText.{carried_line}

-- the line is 128 lower-case hexadecimal digits, two for each of these 64 bytes
pub record SpellsBytes (line bytes : List ℕ) : Type 0 where
  pub size : length bytes ≡ 64
  pub reads : decode_of line ≡ Ok bytes
  pub lower : line ≡ encode_lower bytes

-- the message that a packet carries whole: the bytes of a part that begins and ends one
abbrev pub carried_bytes : Body → Option (List ℕ)
carried_bytes (Part true true len bytes) = Some (take len bytes)
carried_bytes (Part true false len bytes) = None
carried_bytes (Part false stop len bytes) = None
carried_bytes (Vers major minor) = None
carried_bytes (Rts mode) = None
carried_bytes (Rtr mode) = None
carried_bytes Rdx = None

abbrev pub CarriesMessage : Option (List ℕ) → Option (Result Message TagFault) → Type 0
CarriesMessage (Some bytes) (Some said) = Decodes bytes said
CarriesMessage (Some bytes) None = ⊥
CarriesMessage None (Some said) = ⊥
CarriesMessage None None = ⊤

-- a message is said where the packet carries one whole, and else none
abbrev pub CarriesIn : Result Packet PacketFault → Option (Result Message TagFault) → Type 0
CarriesIn (Ok packet) said = CarriesMessage (carried_bytes packet.body) said
CarriesIn (Err fault) said = CarriesMessage None said

-- a line with what it says
pub record Decoded : Type 0 where
  pub line : List ℕ
  pub packet : Result Packet PacketFault
  pub said : Option (Result Message TagFault)

-- the packet and the message are those of these bytes
pub record IsDecoded (bytes : List ℕ) (decoded : Decoded) : Type 0 where
  pub packet : Unpacks bytes decoded.packet
  pub carries : CarriesIn decoded.packet decoded.said

pub record IsOfLine (decoded : Decoded) : Type 0 where
  pub bytes : List ℕ
  pub digits : SpellsBytes decoded.line bytes
  pub is : IsDecoded bytes decoded

abbrev pub AreOfLines : List Decoded → Type 0
AreOfLines [] = ⊤
AreOfLines (decoded ∷ others) = IsOfLine decoded × AreOfLines others

-- whether the bytes are a packet
abbrev pub is_ok : Result Packet PacketFault → Bool
is_ok (Ok packet) = true
is_ok (Err fault) = false

abbrev pub is_packet : Decoded → Bool
is_packet decoded = is_ok decoded.packet

abbrev pub is_fault : Decoded → Bool
is_fault decoded = not (is_ok decoded.packet)

-- the line of the packet, and after it that of the message
abbrev pub decoded_text : Decoded → List ℕ
decoded_text decoded = packet_line decoded.packet ++ carried_line decoded.said

-- the lines of all packets
abbrev pub decoded_lines : List Decoded → List ℕ
decoded_lines all = flat_map decoded_text all
