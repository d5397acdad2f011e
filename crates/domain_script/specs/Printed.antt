-- The one canonical line of an event: its row's word, and the words of its values, with a space before each.
use Rattle.std.specs.Prelude.{ℕ, List, [], ◌∷◌, ◌++◌, take, decimal, Option, Some, None, IsSomeAnd, ⊤}
use Rattle.hex.specs.Hex.{IsBytes, encode_lower}
use Rattle.domain_script.specs.declared.event.EndName.{EndName}
use Rattle.domain_script.specs.declared.event.Event.{Event}
use Rattle.domain_script.specs.declared.event.Lane.{Lane}
use Rattle.domain_script.specs.declared.fields.Field.{Field}
use Rattle.domain_script.specs.declared.fields.Field.TheVariants.{NewName, NewAddress, Named, LaneName, End, Number, Bytes, Frame, Packet, Group}
use Rattle.domain_script.specs.NamesState.{NamesState, CanDeclare, IsFreeAddress, lane_name}
use Rattle.domain_script.specs.Rows.{row_of}
use Rattle.domain_script.specs.Spells.{IsDeclared}
use Rattle.domain_script.specs.Values.{SaidRow, ValueOf, ValuesOf, said}
use Rattle.domain_script.specs.Naming.{side_text}
use Rattle.script_words.specs.Texts.{front_text, name_text}
use Rattle.script_words.specs.Words.{IsName}
use Rattle.domain_script.specs.LaneKinds.{lane_at}

-- the name of a declared lane, and nothing where there is none; an end
abbrev pub option_text : {A : Type 0} → (A → List ℕ) → Option A → List ℕ
option_text text None = []
option_text text (Some x) = text x

abbrev pub lane_text : NamesState → Lane → List ℕ
lane_text names lane = option_text name_text (lane_name names lane)

abbrev pub end_text : NamesState → EndName → List ℕ
end_text names end = lane_text names end.lane ++ side_text end.side

-- the word of a field's value
abbrev pub field_text : NamesState → (field : Field) → ValueOf field → List ℕ
field_text names (NewName kind) name = name_text name
field_text names NewAddress address = encode_lower address
field_text names (Named kind) k = lane_text names (lane_at kind k)
field_text names LaneName lane = lane_text names lane
field_text names (End kind) end = end_text names end
field_text names (Number bounds) n = decimal n
field_text names Bytes fill = front_text fill.len fill.bytes
field_text names Frame piece = front_text piece.len piece.bytes
field_text names Packet packet = encode_lower packet
field_text names Group address = encode_lower address

abbrev pub field_texts : NamesState → (fields : List Field) → ValuesOf fields → List (List ℕ)
field_texts names [] values = []
field_texts names (field ∷ fields) values = field_text names field values.0 ∷ field_texts names fields values.1

-- words after a text, with a space before each
abbrev pub followed_by : List ℕ → List (List ℕ) → List ℕ
followed_by text [] = text
followed_by text (word ∷ others) = followed_by (text ++ 32 ∷ word) others

-- the line of an event; that of a blank is empty
abbrev pub text_said : NamesState → Option SaidRow → List ℕ
text_said names None = []
text_said names (Some s) = followed_by (row_of s.kind).word (field_texts names (row_of s.kind).fields s.values)

abbrev pub line_text : NamesState → Event → List ℕ
line_text names event = text_said names (said event)

-- the lane is declared, under a name that a word can spell
abbrev pub HasName : NamesState → Lane → Type 0
HasName names lane = IsSomeAnd (lane_name names lane) IsName

-- a new name and a new address may be declared, and what is named has a name
abbrev pub CanStand : NamesState → (field : Field) → ValueOf field → Type 0
CanStand names (NewName kind) name = CanDeclare names kind name
CanStand names NewAddress address = IsFreeAddress names address
CanStand names (Named kind) k = HasName names (lane_at kind k)
CanStand names LaneName lane = HasName names lane
CanStand names (End kind) end = HasName names end.lane
CanStand names field value = ⊤

abbrev pub AllCanStand : NamesState → (fields : List Field) → ValuesOf fields → Type 0
AllCanStand names [] values = ⊤
AllCanStand names (field ∷ fields) values = CanStand names field values.0 × AllCanStand names fields values.1

abbrev pub RowCanStand : NamesState → Option SaidRow → Type 0
RowCanStand names None = ⊤
RowCanStand names (Some s) = AllCanStand names (row_of s.kind).fields s.values

-- WHAT CAN BE PRINTED: what the event says fits its row, the names in its line are names, and a declaration is one that
-- may be noted
pub record CanPrint (names : NamesState) (event : Event) : Type 0 where
  pub fits : IsDeclared names event
  pub stands : RowCanStand names (said event)

-- what its type says of a value's bytes
abbrev pub AreBytes : (field : Field) → ValueOf field → Type 0
AreBytes NewAddress address = IsBytes address
AreBytes Bytes fill = IsBytes (take fill.len fill.bytes)
AreBytes Frame piece = IsBytes (take piece.len piece.bytes)
AreBytes Packet packet = IsBytes packet
AreBytes Group address = IsBytes address
AreBytes field value = ⊤

abbrev pub AllAreBytes : (fields : List Field) → ValuesOf fields → Type 0
AllAreBytes [] values = ⊤
AllAreBytes (field ∷ fields) values = AreBytes field values.0 × AllAreBytes fields values.1

abbrev pub RowBytes : Option SaidRow → Type 0
RowBytes None = ⊤
RowBytes (Some s) = AllAreBytes (row_of s.kind).fields s.values

abbrev pub EventBytes : Event → Type 0
EventBytes event = RowBytes (said event)
