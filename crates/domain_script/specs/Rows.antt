-- THE ROWS OF A SCRIPT, as data: the word that a row begins with, and what each word after it has to be. Lanes have the
-- kinds that they are declared with; an end is any end, a disk's server, or one with memory; a number has its bounds.
use Rattle.std.specs.Prelude.{ℕ, if◌then◌else◌, List, [], ◌∷◌, codes, Option, Some, None}
use Rattle.std.specs.Str.{bytes_eq}
use Rattle.script_words.specs.declared.numbers.Bounds.TheVariants as numbers
use Rattle.domain_script.specs.declared.fields.EndKind.TheVariants as ends
use Rattle.domain_script.specs.declared.fields.Field.{Field}
use Rattle.domain_script.specs.declared.fields.Field.TheVariants.{NewName, NewAddress, Named, LaneName, End, Number, Bytes, Frame, Packet, Group}
use Rattle.domain_script.specs.declared.fields.LaneKind.TheVariants as lanes
use Rattle.domain_script.specs.declared.rows.RowKind.{RowKind}
use Rattle.domain_script.specs.declared.rows.RowKind.TheVariants as row

pub record Row : Type 0 where
  pub word : List ℕ
  pub fields : List Field

-- one line for each row
abbrev pub row_of : RowKind → Row
row_of row.Disk = record {
  word = codes "disk";
  fields = NewName lanes.Disk ∷ Number (numbers.Between 1 65536) ∷ Number (numbers.PowerBetween 2 256) ∷ Number (numbers.PowerBetween 8 256) ∷ [];
}
row_of row.Net = record {
  word = codes "net";
  fields = NewName lanes.Port ∷ NewAddress ∷ Number (numbers.PowerBetween 2 64) ∷ Number (numbers.PowerBetween 8 256) ∷ [];
}
row_of row.Write = record { word = codes "write"; fields = Named lanes.Disk ∷ Number numbers.Any ∷ Number numbers.Any ∷ Bytes ∷ [] }
row_of row.Read = record { word = codes "read"; fields = Named lanes.Disk ∷ Number numbers.Any ∷ Number numbers.Any ∷ [] }
row_of row.Flush = record { word = codes "flush"; fields = Named lanes.Disk ∷ [] }
row_of row.Send = record { word = codes "send"; fields = Named lanes.Port ∷ Frame ∷ [] }
row_of row.Join = record { word = codes "join"; fields = Named lanes.Port ∷ Group ∷ [] }
row_of row.Step = record { word = codes "step"; fields = End ends.Any ∷ Number (numbers.Between 1 100) ∷ [] }
row_of row.Round = record { word = codes "round"; fields = Number (numbers.Between 1 100) ∷ [] }
row_of row.Settle = record { word = codes "settle"; fields = [] }
row_of row.Reset = record { word = codes "reset"; fields = End ends.Any ∷ [] }
row_of row.Restart = record { word = codes "restart"; fields = End ends.DiskServer ∷ [] }
row_of row.Stop = record { word = codes "stop"; fields = Named lanes.Disk ∷ [] }
row_of row.Start = record { word = codes "start"; fields = Named lanes.Disk ∷ [] }
row_of row.Lose = record { word = codes "drop"; fields = End ends.Any ∷ [] }
row_of row.Tick = record { word = codes "tick"; fields = LaneName ∷ [] }
row_of row.Inject = record { word = codes "inject"; fields = End ends.Any ∷ Packet ∷ [] }
row_of row.Poke = record { word = codes "poke"; fields = End ends.WithMemory ∷ Number numbers.Any ∷ Bytes ∷ [] }

abbrev pub rows : List RowKind
rows =
    row.Write ∷ row.Read ∷ row.Settle ∷ row.Send ∷ row.Flush ∷ row.Step ∷ row.Round ∷ row.Tick ∷ row.Poke ∷ row.Inject ∷ row.Reset ∷ row.Lose ∷ row.Restart
    ∷ row.Stop ∷ row.Start ∷ row.Join ∷ row.Disk ∷ row.Net ∷ []

-- the row that a word begins
abbrev pub row_among : List ℕ → List RowKind → Option RowKind
row_among word [] = None
row_among word (kind ∷ kinds) = if bytes_eq word (row_of kind).word then Some kind else row_among word kinds

abbrev pub row_named : List ℕ → Option RowKind
row_named word = row_among word rows
