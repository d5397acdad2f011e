-- The line of a packet.
use Rattle.std.specs.Prelude.{ℕ, List, ◌++◌, take, codes, Result, Ok, Err}
use Rattle.hex.specs.Hex.{encode_lower}
use Rattle.ldc_packet.specs.declared.packet.Body.{Body}
use Rattle.ldc_packet.specs.declared.packet.Body.TheVariants.{Vers, Rts, Rtr, Rdx, Part}
use Rattle.ldc_packet.specs.declared.packet.Packet.{Packet}
use Rattle.ldc_packet.specs.declared.packet.PacketFault.{PacketFault}
use Rattle.ldc_packet.specs.declared.packet.Subtype.{Subtype}
use Rattle.vio_tag.specs.CauseText.{packet_word}
use Rattle.ldom_dump.specs.Fields.{field_text, flag_number, head_text}

-- a link's handshake packet by its name, with its subtype and seqid; a part of a message with its seqid, its two
-- flags and its bytes
abbrev pub body_text : Subtype → ℕ → Body → List ℕ
body_text subtype seqid (Vers major minor) = head_text (codes "ctrl vers ") subtype (codes " seq=") seqid ++ field_text (codes " major=") major ++ field_text (codes " minor=") minor
body_text subtype seqid (Rts mode) = head_text (codes "ctrl rts ") subtype (codes " seq=") seqid ++ field_text (codes " mode=") mode
body_text subtype seqid (Rtr mode) = head_text (codes "ctrl rtr ") subtype (codes " seq=") seqid ++ field_text (codes " mode=") mode
body_text subtype seqid Rdx = head_text (codes "ctrl rdx ") subtype (codes " seq=") seqid
body_text subtype seqid (Part start stop len bytes) =
    field_text (codes "part seq=") seqid ++ field_text (codes " start=") (flag_number start) ++ field_text (codes " stop=") (flag_number stop)
    ++ field_text (codes " len=") len ++ codes " " ++ encode_lower (take len bytes)

-- the line of a packet, or of what is wrong with it
abbrev pub packet_line : Result Packet PacketFault → List ℕ
packet_line (Ok packet) = body_text packet.subtype packet.seqid packet.body ++ codes "\n"
packet_line (Err fault) = codes "fault " ++ packet_word fault ++ codes "\n"
