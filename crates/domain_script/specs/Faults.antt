-- THE FAULTS OF A LINE: what is wrong with it is the first of twelve that holds. Each stands by itself, in the words of
-- the table of docs/SCRIPT.md, and asks nothing of those before it.
use Rattle.std.specs.Prelude.{ℕ, ◌+◌, ◌==◌, ◌&&◌, nat_le, not, Bool, true, false, List, [], ◌∷◌, length, find, zip, Option, Some, None, is_none, is_some}
use Rattle.std.specs.List.{list_all, list_any}
use Rattle.domain_script.specs.declared.event.LineFault.{LineFault}
use Rattle.domain_script.specs.declared.event.LineFault.TheVariants as line_fault
use Rattle.domain_script.specs.declared.fields.Field.{Field}
use Rattle.domain_script.specs.declared.fields.Field.TheVariants.{NewName, NewAddress, Named, LaneName, End, Number, Bytes, Frame, Packet, Group}
use Rattle.domain_script.specs.declared.rows.RowKind.{RowKind}
use Rattle.script_words.specs.Addresses.{is_among, is_group, is_own}
use Rattle.domain_script.specs.Declarations.{addresses}
use Rattle.script_words.specs.Limits.{address_bytes, most_of_a_fill, most_of_a_kind, most_of_a_piece, packet_bytes}
use Rattle.domain_script.specs.Naming.{end_named, lane_named, kind_named, some_of_kind}
use Rattle.domain_script.specs.NamesState.{NamesState, count_of}
use Rattle.domain_script.specs.Rows.{row_named, row_of}
use Rattle.script_words.specs.Words.{bytes_of, is_exactly, is_front, is_name, is_number, is_within, number_of, words, is_printable}

-- an empty line, or a comment
abbrev pub is_blank : List ℕ → Bool
is_blank [] = true
is_blank (b ∷ bs) = b == 35

-- the row that the first word begins, if it begins one
abbrev pub row_in : List (List ℕ) → Option RowKind
row_in [] = None
row_in (word ∷ others) = row_named word

-- 1. a byte is outside of the space to the tilde
abbrev pub has_other_byte : List ℕ → Bool
has_other_byte line = not (list_all is_printable line)

-- 2. a space stands first or last, or two stand together, but in a comment: a part between spaces is empty
abbrev pub is_empty : List ℕ → Bool
is_empty [] = true
is_empty (b ∷ bs) = false

abbrev pub has_stray_space : List ℕ → Bool
has_stray_space line = not (is_blank line) && list_any is_empty (words line)

-- 3. the first word is none of the table
abbrev pub has_no_row : List ℕ → Bool
has_no_row line = not (is_blank line) && is_none (row_in (words line))

-- 4. the row has another number of words
abbrev pub asks_other : ℕ → Option RowKind → Bool
asks_other many None = false
asks_other many (Some kind) = not (many == 1 + length (row_of kind).fields)

abbrev pub has_other_count : List ℕ → Bool
has_other_count line = asks_other (length (words line)) (row_in (words line))

-- The others are of a field, with its word.
-- 5. the name that a declaration gives isn't spelled as a name
abbrev pub is_misnamed : Field → List ℕ → Bool
is_misnamed (NewName kind) word = not (is_name word)
is_misnamed field word = false

-- 6. a declaration stands after a line that is neither blank nor a declaration
abbrev pub is_misplaced : NamesState → Field → Bool
is_misplaced names (NewName kind) = names.ended
is_misplaced names field = false

-- 7. the name, or a port's address, was declared before
abbrev pub is_taken : NamesState → Field → List ℕ → Bool
is_taken names (NewName kind) word = is_some (lane_named names word)
is_taken names NewAddress word = is_exactly address_bytes word && is_among (bytes_of word) (addresses names.ports)
is_taken names field word = false

-- 8. a name or an end isn't declared, or isn't of the kind that the row needs
abbrev pub is_unknown : NamesState → Field → List ℕ → Bool
is_unknown names (Named kind) word = is_none (kind_named kind names word)
is_unknown names LaneName word = is_none (lane_named names word)
is_unknown names (End kind) word = not (some_of_kind kind (end_named names word))
is_unknown names field word = false

-- 9. a number isn't spelled as one
abbrev pub is_no_number : Field → List ℕ → Bool
is_no_number (Number bounds) word = not (is_number word)
is_no_number field word = false

-- 10. a number is outside of its bounds, or an address is of the wrong kind
abbrev pub is_out_of_bounds : Field → List ℕ → Bool
is_out_of_bounds (Number bounds) word = is_number word && not (is_within bounds (number_of word))
is_out_of_bounds NewAddress word = is_exactly address_bytes word && not (is_own (bytes_of word))
is_out_of_bounds Group word = is_exactly address_bytes word && not (is_group (bytes_of word))
is_out_of_bounds field word = false

-- 11. a word of hexadecimal digits isn't one, or has another length than it may have
abbrev pub is_no_bytes : Field → List ℕ → Bool
is_no_bytes NewAddress word = not (is_exactly address_bytes word)
is_no_bytes Bytes word = not (is_front most_of_a_fill word)
is_no_bytes Frame word = not (is_front most_of_a_piece word)
is_no_bytes Packet word = not (is_exactly packet_bytes word)
is_no_bytes Group word = not (is_exactly address_bytes word)
is_no_bytes field word = false

-- 12. eight of the kind are declared
abbrev pub is_one_too_many : NamesState → Field → Bool
is_one_too_many names (NewName kind) = nat_le most_of_a_kind (count_of kind names)
is_one_too_many names field = false

-- what is wrong with a field's word; the first four are faults of a whole line
abbrev pub is_wrong : LineFault → NamesState → Field → List ℕ → Bool
is_wrong line_fault.Name names field word = is_misnamed field word
is_wrong line_fault.Place names field word = is_misplaced names field
is_wrong line_fault.Taken names field word = is_taken names field word
is_wrong line_fault.Unknown names field word = is_unknown names field word
is_wrong line_fault.Number names field word = is_no_number field word
is_wrong line_fault.Range names field word = is_out_of_bounds field word
is_wrong line_fault.Hex names field word = is_no_bytes field word
is_wrong line_fault.Many names field word = is_one_too_many names field
is_wrong other names field word = false

-- each field of the row that was found, with the word in its place
abbrev pub fields_of : Option RowKind → List Field
fields_of None = []
fields_of (Some kind) = (row_of kind).fields

abbrev pub placed : List (List ℕ) → List (Field × List ℕ)
placed [] = []
placed (word ∷ others) = zip (fields_of (row_named word)) others

abbrev pub has_wrong_field : LineFault → List ℕ → NamesState → Bool
has_wrong_field which line names = list_any (λ place. is_wrong which names place.0 place.1) (placed (words line))

-- whether a fault holds
abbrev pub has_fault : LineFault → List ℕ → NamesState → Bool
has_fault line_fault.Byte line names = has_other_byte line
has_fault line_fault.Space line names = has_stray_space line
has_fault line_fault.Word line names = has_no_row line
has_fault line_fault.Words line names = has_other_count line
has_fault other line names = has_wrong_field other line names

-- their order
abbrev pub faults : List LineFault
faults =
    line_fault.Byte ∷ line_fault.Space ∷ line_fault.Word ∷ line_fault.Words ∷ line_fault.Name ∷ line_fault.Place ∷ line_fault.Taken ∷ line_fault.Unknown
    ∷ line_fault.Number ∷ line_fault.Range ∷ line_fault.Hex ∷ line_fault.Many ∷ []

-- THE FIRST THAT HOLDS
abbrev pub first_fault : List ℕ → NamesState → Option LineFault
first_fault line names = find (λ which. has_fault which line names) faults
