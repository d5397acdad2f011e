-- The events of lines that are known byte for byte: `events_of` computes them.
use Rattle.std.specs.Prelude.{ℕ, if◌then◌else◌, List, [], ◌∷◌, length, Option, Some, None, option_and_then, unwrap_or}
use Rattle.script_words.specs.vdisk_msg.declared.request.Fill.{Fill}
use Rattle.domain_script.specs.declared.event.Event.{Event}
use Rattle.domain_script.specs.declared.event.Event.TheVariants.{Blank}
use Rattle.domain_script.specs.declared.event.LineFault.{LineFault}
use Rattle.script_words.specs.declared.spelled.Piece.{Piece}
use Rattle.domain_script.specs.declared.event.Side.TheVariants.{Client}
use Rattle.domain_script.specs.declared.fields.Field.{Field}
use Rattle.domain_script.specs.declared.fields.Field.TheVariants.{NewName, NewAddress, Named, LaneName, End, Number, Bytes, Frame, Packet, Group}
use Rattle.domain_script.specs.declared.rows.RowKind.{RowKind}
use Rattle.domain_script.specs.Faults.{first_fault, is_blank}
use Rattle.script_words.specs.Limits.{most_of_a_fill, most_of_a_piece}
use Rattle.domain_script.specs.Naming.{end_named, lane_named, kind_named}
use Rattle.domain_script.specs.NamesState.{NamesState, noted}
use Rattle.domain_script.specs.Rows.{row_named, row_of}
use Rattle.domain_script.specs.Values.{ValueOf, ValuesOf, made}
use Rattle.script_words.specs.Words.{bytes_of, in_room, name_of, number_of, words}
use Rattle.domain_script.specs.LaneKinds.{disk_lane}

-- bytes in front of zeros
abbrev pub fill_of : List ℕ → Fill
fill_of word = record { len = length (bytes_of word); bytes = in_room most_of_a_fill (bytes_of word) }

abbrev pub piece_of : List ℕ → Piece
piece_of word = record { len = length (bytes_of word); bytes = in_room most_of_a_piece (bytes_of word) }

-- the value of a field whose word has no fault
abbrev pub field_value : NamesState → (field : Field) → List ℕ → ValueOf field
field_value names (NewName kind) word = name_of word
field_value names NewAddress word = bytes_of word
field_value names (Named kind) word = unwrap_or (kind_named kind names word) 0
field_value names LaneName word = unwrap_or (lane_named names word) (disk_lane 0)
field_value names (End kind) word = unwrap_or (end_named names word) (record { lane = disk_lane 0; side = Client })
field_value names (Number bounds) word = number_of word
field_value names Bytes word = fill_of word
field_value names Frame word = piece_of word
field_value names Packet word = bytes_of word
field_value names Group word = bytes_of word

-- the values of fields that have as many words
abbrev pub first_word : List (List ℕ) → List ℕ
first_word [] = []
first_word (word ∷ others) = word

abbrev pub other_words : List (List ℕ) → List (List ℕ)
other_words [] = []
other_words (word ∷ others) = others

abbrev pub field_values : NamesState → (fields : List Field) → List (List ℕ) → ValuesOf fields
field_values names [] line = tt
field_values names (field ∷ fields) line = (field_value names field (first_word line), field_values names fields (other_words line))

-- the event of a line that has no fault
abbrev pub found_event : NamesState → Option RowKind → List (List ℕ) → Event
found_event names None line = Blank
found_event names (Some kind) line = made kind (field_values names (row_of kind).fields line)

abbrev pub words_event : NamesState → List (List ℕ) → Event
words_event names [] = Blank
words_event names (word ∷ line) = found_event names (row_named word) line

abbrev pub faultless_event : List ℕ → NamesState → Event
faultless_event line names = if is_blank line then Blank else words_event names (words line)

-- the event that a line spells
abbrev pub unless_faulty : Option LineFault → Event → Option Event
unless_faulty None event = Some event
unless_faulty (Some which) event = None

abbrev pub event_of : List ℕ → NamesState → Option Event
event_of line names = unless_faulty (first_fault line names) (faultless_event line names)

-- one event in front of others
abbrev pub in_front : Event → Option (List Event × NamesState) → Option (List Event × NamesState)
in_front event None = None
in_front event (Some others) = Some (event ∷ others.0, others.1)

-- the events of all lines, and the names that they declare
abbrev pub events_of : List (List ℕ) → NamesState → Option (List Event × NamesState)
events_of [] names = Some ([], names)
events_of (line ∷ lines) names = option_and_then (λ event. in_front event (events_of lines (noted names event))) (event_of line names)
