-- What the words of a row's fields say, and the event that they make.
use Rattle.std.specs.Prelude.{ℕ, List, [], ◌∷◌, Option, Some, None}
use Rattle.script_words.specs.vdisk_msg.declared.request.Fill.{Fill}
use Rattle.script_words.specs.vdisk_msg.declared.request.Request.TheVariants.{Read, Write, Flush}
use Rattle.domain_script.specs.declared.event.EndName.{EndName}
use Rattle.domain_script.specs.declared.event.Event.{Event}
use Rattle.domain_script.specs.declared.event.Event.TheVariants.{Blank, Disk, Net, Send, Join, Issue, Settle, Step, Round, Reset, Restart, Stop, Start, Lose, Tick, Inject, Poke}
use Rattle.domain_script.specs.declared.event.Lane.{Lane}
use Rattle.script_words.specs.declared.spelled.Name.{Name}
use Rattle.script_words.specs.declared.spelled.Piece.{Piece}
use Rattle.domain_script.specs.declared.fields.Field.{Field}
use Rattle.domain_script.specs.declared.fields.Field.TheVariants.{NewName, NewAddress, Named, LaneName, End, Number, Bytes, Frame, Packet, Group}
use Rattle.domain_script.specs.declared.rows.RowKind.{RowKind}
use Rattle.domain_script.specs.declared.rows.RowKind.TheVariants as row
use Rattle.domain_script.specs.Rows.{row_of}

-- the name that is declared, and the address; the number of the lane of a kind that is named; the lane, or the end, that is named; a number; bytes,
-- a frame, and the bytes of a packet and of a group's address
abbrev pub ValueOf : Field → Type 0
ValueOf (NewName kind) = Name
ValueOf NewAddress = List ℕ
ValueOf (Named kind) = ℕ
ValueOf LaneName = Lane
ValueOf (End kind) = EndName
ValueOf (Number bounds) = ℕ
ValueOf Bytes = Fill
ValueOf Frame = Piece
ValueOf Packet = List ℕ
ValueOf Group = List ℕ

-- a value for each field
abbrev pub ValuesOf : List Field → Type 0
ValuesOf [] = Unit {0}
ValuesOf (field ∷ fields) = ValueOf field × ValuesOf fields

-- the event that the values of a row make
abbrev pub made : (kind : RowKind) → ValuesOf (row_of kind).fields → Event
made row.Disk values = Disk (record { name = values.0; blocks = values.1.0; ring = values.1.1.0; queue = values.1.1.1.0 })
made row.Net values = Net (record { name = values.0; address = values.1.0; ring = values.1.1.0; queue = values.1.1.1.0 })
made row.Write values = Issue values.0 (Write values.1.0 values.1.1.0 values.1.1.1.0)
made row.Read values = Issue values.0 (Read values.1.0 values.1.1.0)
made row.Flush values = Issue values.0 Flush
made row.Send values = Send values.0 values.1.0
made row.Join values = Join values.0 values.1.0
made row.Step values = Step values.0 values.1.0
made row.Round values = Round values.0
made row.Settle values = Settle
made row.Reset values = Reset values.0
made row.Restart values = Restart values.0
made row.Stop values = Stop values.0
made row.Start values = Start values.0
made row.Lose values = Lose values.0
made row.Tick values = Tick values.0
made row.Inject values = Inject values.0 values.1.0
made row.Poke values = Poke values.0 values.1.0 values.1.1.0

-- the other way round: the row of an event, and the values of its fields; a blank line has none
pub record SaidRow : Type 0 where
  pub kind : RowKind
  pub values : ValuesOf (row_of kind).fields

abbrev pub said : Event → Option SaidRow
said Blank = None
said (Disk disk) = Some (record { kind = row.Disk; values = (disk.name, (disk.blocks, (disk.ring, (disk.queue, tt)))) })
said (Net port) = Some (record { kind = row.Net; values = (port.name, (port.address, (port.ring, (port.queue, tt)))) })
said (Issue disk (Write block count fill)) = Some (record { kind = row.Write; values = (disk, (block, (count, (fill, tt)))) })
said (Issue disk (Read block count)) = Some (record { kind = row.Read; values = (disk, (block, (count, tt))) })
said (Issue disk Flush) = Some (record { kind = row.Flush; values = (disk, tt) })
said (Send port frame) = Some (record { kind = row.Send; values = (port, (frame, tt)) })
said (Join port address) = Some (record { kind = row.Join; values = (port, (address, tt)) })
said (Step end count) = Some (record { kind = row.Step; values = (end, (count, tt)) })
said (Round count) = Some (record { kind = row.Round; values = (count, tt) })
said Settle = Some (record { kind = row.Settle; values = tt })
said (Reset end) = Some (record { kind = row.Reset; values = (end, tt) })
said (Restart end) = Some (record { kind = row.Restart; values = (end, tt) })
said (Stop disk) = Some (record { kind = row.Stop; values = (disk, tt) })
said (Start disk) = Some (record { kind = row.Start; values = (disk, tt) })
said (Lose end) = Some (record { kind = row.Lose; values = (end, tt) })
said (Tick lane) = Some (record { kind = row.Tick; values = (lane, tt) })
said (Inject end packet) = Some (record { kind = row.Inject; values = (end, (packet, tt)) })
said (Poke end at bytes) = Some (record { kind = row.Poke; values = (end, (at, (bytes, tt))) })
