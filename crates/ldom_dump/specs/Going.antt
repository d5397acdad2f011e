-- The lines of a dump, one after another, while their text is gathered.
use Rattle.std.specs.Prelude.{◌≡◌, ◌≢◌, ℕ, ◌≤◌, ◌⊎◌, Bool, List, ◌++◌, length, map, Option}
use Rattle.std.specs.Io.KnownBytes.{Appends}
use Rattle.std.specs.List.{count_by}
use Rattle.domain_script.specs.ScriptLines.{LinesTaken}
use Rattle.ldc_packet.specs.declared.packet.Packet.{Packet}
use Rattle.ldc_packet.specs.declared.packet.PacketFault.{PacketFault}
use Rattle.vio_tag.specs.declared.message.Message.{Message}
use Rattle.vio_tag.specs.declared.message.TagFault.{TagFault}
use Rattle.std.specs.Prelude.{Result}
use Rattle.ldc_packet.specs.Decoding.{Unpacks}
use Rattle.vio_tag.specs.Decoding.{Decodes}
use Rattle.ldom_report.specs.declared.status.Status.{Status}
use Rattle.ldom_report.specs.declared.status.Status.TheVariants.{SinkFault, SourceFault}
use Rattle.script_reader.specs.LinesState.{AllFed}
use Rattle.gathered_text.specs.Gathered.{Gathers, WroteFront, most_gathered}
use Rattle.ldom_report.specs.LinesEnd.{counted_lines}
use Rattle.ldom_dump.specs.declared.lines.Ended.{Ended}
use Rattle.ldom_dump.specs.Decoded.{AreOfLines, CarriesMessage, CarriesIn, Decoded, decoded_lines, is_fault, is_ok, is_packet}
use Rattle.ldom_dump.specs.DumpReport.{WroteMostLines}
use Rattle.ldom_dump.specs.MessageText.{carried_line, message_line}
use Rattle.ldom_dump.specs.PacketText.{packet_line}
use Rattle.ldom_dump.specs.Reading.{DumpHolds, DumpStops}

-- the line of the message that these bytes spell was put after a text, or that of their fault
pub record TellsMessage (bytes old new : List ℕ) : Type 0 where
  pub said : Result Message TagFault
  pub says : Decodes bytes said
  pub is : new ≡ old ++ message_line said

-- the line of the message that is carried, if one is
pub record TellsCarried (bytes : Option (List ℕ)) (old new : List ℕ) : Type 0 where
  pub said : Option (Result Message TagFault)
  pub carries : CarriesMessage bytes said
  pub is : new ≡ old ++ carried_line said

-- the lines of what these bytes say; and whether they are a packet
pub record TellsPacket (bytes old new : List ℕ) (whether : Bool) : Type 0 where
  pub packet : Result Packet PacketFault
  pub said : Option (Result Message TagFault)
  pub says : Unpacks bytes packet
  pub carries : CarriesIn packet said
  pub whether_is : whether ≡ is_ok packet
  pub is : new ≡ old ++ (packet_line packet ++ carried_line said)

-- the same, and a front of what was gathered before may have been written
pub record PutsPacket (bytes : List ℕ) (old new : Option (List ℕ)) (before after : List ℕ) (whether : Bool) : Type 0 where
  pub room : List ℕ
  pub wrote : Gathers old new room before
  pub tells : TellsPacket bytes room after whether

-- of these lines most were written where the sink failed, and else the rest is still gathered
abbrev pub GathersUnlessSinkFault : Status → Option (List ℕ) → Option (List ℕ) → List ℕ → List ℕ → Type 0
GathersUnlessSinkFault SinkFault old new gathered text = WroteMostLines old new text text
GathersUnlessSinkFault why old new gathered text = Gathers old new gathered text

-- These lines were decoded from the front of what is to come, and then no further one, as `ended` says. Their text is
-- gathered. Where the source failed, each had its line feed.
pub record DumpsLines (start now : Option (List ℕ)) (ended : Ended) (old new : Option (List ℕ)) (gathered : List ℕ) : Type 0 where
  pub all : List Decoded
  pub left : Option (List ℕ)
  pub taken : LinesTaken start left (map (λ decoded. decoded.line) all)
  pub are : AreOfLines all
  pub held : List ℕ
  pub stop : DumpStops ended.why left held now (length all)
  pub holds : DumpHolds ended.why held
  pub feeds : ended.why ≡ SourceFault → AllFed start left (map (λ decoded. decoded.line) all)
  pub lines_are : ended.why ≢ SinkFault → ended.lines ≡ counted_lines ended.why (length all)
  pub packets_are : ended.packets ≡ count_by is_packet all
  pub faults_are : ended.faults ≡ count_by is_fault all
  pub gathers : GathersUnlessSinkFault ended.why old new gathered (decoded_lines all)

-- What was gathered and the last line were written, or a front of them, where no more was gathered than may be; nothing after a
-- fault of the sink.
abbrev pub Finishes : Status → Status → Option (List ℕ) → Option (List ℕ) → List ℕ → List ℕ → Type 0
Finishes SinkFault status old new gathered last = (status ≡ SinkFault) × (new ≡ old)
Finishes why status old new gathered last =
    ((status ≡ why) × Appends old new (gathered ++ last))
    ⊎ ((status ≡ SinkFault) × WroteFront old new (gathered ++ last) × (length gathered ≤ most_gathered))
