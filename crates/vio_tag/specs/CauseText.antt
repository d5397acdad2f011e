-- The text of each cause of a reset, as a `reset` line has it.
use Rattle.std.specs.Prelude.{ℕ, List, ◌++◌, ◌==◌, if◌then◌else◌, codes}
use Rattle.std.specs.Fmt.{decimal}
use Rattle.ldc_packet.specs.declared.packet.PacketFault.{PacketFault}
use Rattle.ldc_packet.specs.declared.packet.PacketFault.TheVariants as packet
use Rattle.vio_tag.specs.declared.message.TagFault.{TagFault}
use Rattle.vio_tag.specs.declared.message.TagFault.TheVariants as tag
use Rattle.vio_tag.specs.declared.cause.Cause.{Cause}
use Rattle.vio_tag.specs.declared.cause.Cause.TheVariants.{Asked, Restart, Tick, Packet, Gap, Mode, Version, Unexpected, Fragment, Tag, Sid, Order, Refused, Ident, Seq, Slot, RangeEnd, NotReady, NotDone, Frame, Copy}

-- what is wrong with a packet, in a word
abbrev pub packet_word : PacketFault → List ℕ
packet_word packet.Kind = codes "kind"
packet_word packet.Subtype = codes "subtype"
packet_word packet.Ctrl = codes "ctrl"
packet_word packet.Length = codes "length"

-- what is wrong with a message, in a word
abbrev pub tag_word : TagFault → List ℕ
tag_word tag.Short = codes "short"
tag_word tag.Kind = codes "kind"
tag_word tag.Subtype = codes "subtype"
tag_word tag.Envelope = codes "envelope"
tag_word tag.Length = codes "length"
tag_word tag.Cookies = codes "cookies"

-- why a copy was refused, in a word, by the number of its fault
abbrev pub copy_word : ℕ → List ℕ
copy_word n =
    if n == 1 then codes "channel"
    else if n == 2 then codes "badalign"
    else if n == 3 then codes "short"
    else if n == 4 then codes "badpage"
    else if n == 5 then codes "nomap"
    else if n == 6 then codes "noaccess"
    else codes "unknown"

-- two numbers with their names
abbrev pub numbers : List ℕ → ℕ → List ℕ → ℕ → List ℕ
numbers first a second b = first ++ (decimal a ++ (second ++ decimal b))

abbrev pub cause_text : Cause → List ℕ
cause_text Asked = codes "asked"
cause_text Restart = codes "restart"
cause_text Tick = codes "tick"
cause_text (Packet fault) = codes "packet " ++ packet_word fault
cause_text (Gap expected found) = numbers (codes "gap expected=") expected (codes " found=") found
cause_text (Mode found) = codes "mode found=" ++ decimal found
cause_text Version = codes "version"
cause_text Unexpected = codes "unexpected"
cause_text Fragment = codes "fragment"
cause_text (Tag fault) = codes "tag " ++ tag_word fault
cause_text (Sid expected found) = numbers (codes "sid expected=") expected (codes " found=") found
cause_text Order = codes "order"
cause_text Refused = codes "refused"
cause_text (Ident expected found) = numbers (codes "ident expected=") expected (codes " found=") found
cause_text (Seq expected found) = numbers (codes "seq expected=") expected (codes " found=") found
cause_text (Slot expected found) = numbers (codes "slot expected=") expected (codes " found=") found
cause_text (RangeEnd found) = codes "end found=" ++ decimal found
cause_text (NotReady slot state) = numbers (codes "notready slot=") slot (codes " state=") state
cause_text (NotDone slot state) = numbers (codes "notdone slot=") slot (codes " state=") state
cause_text (Frame size count) = numbers (codes "frame size=") size (codes " cookies=") count
cause_text (Copy fault) = codes "copy " ++ copy_word fault
