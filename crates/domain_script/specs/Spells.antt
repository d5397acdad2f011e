-- The rows of a script: which event a line spells.
use Rattle.std.specs.Prelude.{◌≡◌, ℕ, ◌^◌, ◌<◌, ◌⊎◌, IsTrue, List, [], ◌∷◌, ◌++◌, length, Option, Some, None, ⊤}
use Rattle.std.specs.List.{list_all}
use Rattle.domain_script.specs.declared.event.Event.{Event}
use Rattle.domain_script.specs.declared.event.EndName.{EndName}
use Rattle.domain_script.specs.declared.event.Lane.{Lane}
use Rattle.domain_script.specs.declared.event.Event.TheVariants.{Blank}
use Rattle.script_words.specs.declared.spelled.Name.{Name}
use Rattle.domain_script.specs.declared.event.Side.TheVariants.{Client, Server}
use Rattle.domain_script.specs.declared.fields.EndKind.{EndKind}
use Rattle.domain_script.specs.declared.fields.EndKind.TheVariants as ends
use Rattle.domain_script.specs.declared.fields.Field.{Field}
use Rattle.domain_script.specs.declared.fields.Field.TheVariants.{NewName, NewAddress, Named, LaneName, End, Number, Bytes, Frame, Packet, Group}
use Rattle.domain_script.specs.declared.rows.RowKind.{RowKind}
use Rattle.script_words.specs.Addresses.{IsAddress, IsGroupAddress}
use Rattle.script_words.specs.Fills.{IsFill, IsPiece}
use Rattle.script_words.specs.Limits.{address_bytes, packet_bytes}
use Rattle.domain_script.specs.declared.fields.LaneKind.TheVariants as lanes
use Rattle.domain_script.specs.NamesState.{NamesState, CanDeclare, IsFreeAddress, IsLane, IsNamed, count_of}
use Rattle.domain_script.specs.Naming.{side_text}
use Rattle.domain_script.specs.Rows.{row_named, row_of}
use Rattle.domain_script.specs.Values.{SaidRow, ValueOf, ValuesOf, made, said}
use Rattle.script_words.specs.Words.{is_printable, words, IsName, IsWithin, SpellsNumber, SpellsName, SpellsExactly, SpellsFill, SpellsPiece}
use Rattle.domain_script.specs.LaneKinds.{lane_at}

-- an empty line, or a comment: # and printable bytes
abbrev pub IsBlank : List ℕ → Type 0
IsBlank [] = ⊤
IsBlank (b ∷ bs) = (b ≡ 35) × IsTrue (list_all is_printable bs)

-- the word names the declared lane
pub record NamesLane (names : NamesState) (word : List ℕ) (lane : Lane) : Type 0 where
  pub name : Name
  pub spelled : SpellsName word name
  pub declared_as : IsNamed names name lane

-- the word is the name of the end's lane with its side after it
pub record NamesEnd (names : NamesState) (word : List ℕ) (end : EndName) : Type 0 where
  pub name : List ℕ
  pub spelled : word ≡ name ++ side_text end.side
  pub lane_named : NamesLane names name end.lane

-- the end is of the kind: a disk's server has the side `.s`, and of a disk's two ends its client alone has memory
abbrev pub IsOfKind : EndKind → EndName → Type 0
IsOfKind ends.Any end = ⊤
IsOfKind ends.DiskServer end = (end.lane.kind ≡ lanes.Disk) × (end.side ≡ Server)
IsOfKind ends.WithMemory end = end.lane.kind ≡ lanes.Disk → end.side ≡ Client

-- the word of a field spells a value
abbrev pub SpellsField : NamesState → (field : Field) → List ℕ → ValueOf field → Type 0
SpellsField names (NewName kind) word name = SpellsName word name × CanDeclare names kind name
SpellsField names NewAddress word address = SpellsExactly address_bytes word address × IsAddress address × IsFreeAddress names address
SpellsField names (Named kind) word k = NamesLane names word (lane_at kind k)
SpellsField names LaneName word lane = NamesLane names word lane
SpellsField names (End kind) word end = NamesEnd names word end × IsOfKind kind end
SpellsField names (Number bounds) word n = SpellsNumber word n × IsWithin bounds n
SpellsField names Bytes word fill = SpellsFill word fill
SpellsField names Frame word piece = SpellsPiece word piece
SpellsField names Packet word packet = SpellsExactly packet_bytes word packet
SpellsField names Group word address = SpellsExactly address_bytes word address × IsGroupAddress address

-- words spell values, each as its field
abbrev pub SpellsFields : NamesState → (fields : List Field) → List (List ℕ) → ValuesOf fields → Type 0
SpellsFields names [] [] values = ⊤
SpellsFields names [] (word ∷ others) values = ⊥
SpellsFields names (field ∷ fields) [] values = ⊥
SpellsFields names (field ∷ fields) (word ∷ others) values =
    SpellsField names field word values.0 × SpellsFields names fields others values.1

-- the words that follow a row's first one spell an event
pub record SpellsRow (kind : RowKind) (line : List (List ℕ)) (names : NamesState) (event : Event) : Type 0 where
  pub values : ValuesOf (row_of kind).fields
  pub spelled : SpellsFields names (row_of kind).fields line values
  pub makes : event ≡ made kind values

-- the row that was found, if one was
abbrev pub SpellsFound : Option RowKind → List (List ℕ) → NamesState → Event → Type 0
SpellsFound None line names event = ⊥
SpellsFound (Some kind) line names event = SpellsRow kind line names event

-- the words spell an event: the first one tells the row
abbrev pub SpellsWords : List (List ℕ) → NamesState → Event → Type 0
SpellsWords [] names event = ⊥
SpellsWords (word ∷ line) names event = SpellsFound (row_named word) line names event

-- THE LINE SPELLS AN EVENT: it is blank, or its words spell it
abbrev pub Spells : List ℕ → NamesState → Event → Type 0
Spells line names event = (IsBlank line × (event ≡ Blank)) ⊎ SpellsWords (words line) names event

-- a value that the field may have, where these names are declared
abbrev pub FitsField : NamesState → (field : Field) → ValueOf field → Type 0
FitsField names (NewName kind) name = IsName name
FitsField names NewAddress address = IsAddress address
FitsField names (Named kind) k = k < count_of kind names
FitsField names LaneName lane = IsLane names lane
FitsField names (End kind) end = IsLane names end.lane × IsOfKind kind end
FitsField names (Number bounds) n = (n < 2 ^ 64) × IsWithin bounds n
FitsField names Bytes fill = IsFill fill
FitsField names Frame piece = IsPiece piece
FitsField names Packet packet = length packet ≡ packet_bytes
FitsField names Group address = IsGroupAddress address

abbrev pub FitFields : NamesState → (fields : List Field) → ValuesOf fields → Type 0
FitFields names [] values = ⊤
FitFields names (field ∷ fields) values = FitsField names field values.0 × FitFields names fields values.1

-- what an event says fits its row: what it names is declared and of the kind that the row asks for, its numbers are
-- within their bounds, its bytes have their lengths, and its addresses are of their kinds
abbrev pub FitsRow : NamesState → Option SaidRow → Type 0
FitsRow names None = ⊤
FitsRow names (Some s) = FitFields names (row_of s.kind).fields s.values

abbrev pub IsDeclared : NamesState → Event → Type 0
IsDeclared names event = FitsRow names (said event)
