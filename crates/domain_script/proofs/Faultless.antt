-- A line that has none of the faults spells an event, which is computed.
use Rattle.std.proofs.Common.{◌≡◌, ℕ, suc, ◌+◌, ◌<◌, Bool, true, false, ◌&&◌, not, cond, List, [], ◌∷◌, length, get_or, zero, Option, Some, None, find, zip, is_none, is_some, unwrap_or, IfSome, inl, inr, refl, sym, ◌∙◌, ap, arith}
use Rattle.std.specs.Prelude.{◌==◌, if◌then◌else◌}
use Rattle.std.specs.List.{list_any}
use Rattle.std.proofs.lemmas.Bool.{and_parts, eqb-true, leb-false, not-false, or_parts}
use Rattle.domain_script.specs.declared.event.EndName.{EndName}
use Rattle.domain_script.specs.declared.event.Event.TheVariants.{Blank}
use Rattle.domain_script.specs.declared.event.LineFault.{LineFault}
use Rattle.domain_script.specs.declared.event.LineFault.TheVariants as line_fault
use Rattle.domain_script.specs.declared.event.Side.TheVariants.{Client}
use Rattle.domain_script.specs.declared.fields.EndKind.{EndKind}
use Rattle.domain_script.specs.declared.fields.Field.{Field}
use Rattle.domain_script.specs.declared.fields.Field.TheVariants.{NewName, NewAddress, Named, LaneName, End, Number, Bytes, Frame, Packet, Group}
use Rattle.domain_script.specs.declared.rows.RowKind.{RowKind}
use Rattle.domain_script.proofs.FreeAddresses.{free_from_test}
use Rattle.script_words.specs.Addresses.{is_among, is_group, is_own}
use Rattle.domain_script.specs.Computed.{faultless_event, field_value, field_values, found_event, words_event}
use Rattle.domain_script.specs.Declarations.{addresses}
use Rattle.domain_script.specs.Faults.{asks_other, faults, fields_of, first_fault, has_fault, has_other_byte, has_wrong_field, is_blank, is_wrong, placed, row_in}
use Rattle.domain_script.specs.Naming.{end_named, lane_named, kind_named, some_of_kind}
use Rattle.domain_script.specs.NamesState.{NamesState, count_of}
use Rattle.domain_script.specs.Rows.{row_named, row_of}
use Rattle.domain_script.specs.Spells.{IsBlank, IsOfKind, NamesEnd, NamesLane, Spells, SpellsField, SpellsFields, SpellsFound, SpellsWords}
use Rattle.script_words.specs.Words.{bytes_of, is_exactly, is_front, is_name, is_number, is_within, name_of, number_of, words}
use Rattle.script_words.proofs.AddressTests.{group_from_test, own_from_word}
use Rattle.domain_script.proofs.NamingTests.{end_found, kind_found, kind_from_test, lane_found, lane_of_name, none_free}
use Rattle.script_words.proofs.WordTests.{exactly_spelled, front_spelled, name_spelled, number_spelled, within_from_test}
use Rattle.domain_script.specs.LaneKinds.{disk_lane, lane_at}

-- A FIELD whose word has no fault
is_there : {A : Type 0} (o : Option A) (d : A) (P : A → Type 0) → is_none o ≡ false → IfSome o P → P (unwrap_or o d)
is_there None d P some holds = absurd (cc some)
is_there (Some a) d P some holds = holds

end_there : (kind : EndKind) (o : Option EndName) (d : EndName) (P : EndName → Type 0) → some_of_kind kind o ≡ true → IfSome o P → P (unwrap_or o d) × IsOfKind kind (unwrap_or o d)
end_there kind None d P some holds = absurd (cc some)
end_there kind (Some end) d P some holds = (holds, kind_from_test kind end some)

none_of_some : {A : Type 0} (o : Option A) → is_some o ≡ false → o ≡ None
none_of_some None none = refl
none_of_some (Some a) none = absurd (cc none)

second_false : (x y : Bool) → x ≡ true → (x && y) ≡ false → y ≡ false
second_false true y first both = both
second_false false y first both = absurd (cc first)

spells_value : (names : NamesState) (field : Field) (word : List ℕ) → ((which : LineFault) → is_wrong which names field word ≡ false) → SpellsField names field word (field_value names field word)
spells_value names (NewName kind) word right =
    let is : is_name word ≡ true = not-false (is_name word) (right line_fault.Name) in (
      name_spelled word is,
      record {
        open_still = right line_fault.Place;
        few = leb-false 8 (count_of kind names) (right line_fault.Many);
        free = none_free names (name_of word) (sym (lane_of_name names word is) ∙ none_of_some (lane_named names word) (right line_fault.Taken));
      },
    )
spells_value names NewAddress word right =
    let is : is_exactly 6 word ≡ true = not-false (is_exactly 6 word) (right line_fault.Hex) in
    let spells = exactly_spelled 6 word is in (
      spells,
      own_from_word word (bytes_of word) spells (not-false (is_own (bytes_of word)) (second_false (is_exactly 6 word) (not (is_own (bytes_of word))) is (right line_fault.Range))),
      free_from_test (bytes_of word) (addresses names.ports) (second_false (is_exactly 6 word) (is_among (bytes_of word) (addresses names.ports)) is (right line_fault.Taken)),
    )
spells_value names (Named kind) word right =
    is_there (kind_named kind names word) 0 (λ k. NamesLane names word (lane_at kind k)) (right line_fault.Unknown) (kind_found names word kind)
spells_value names LaneName word right = is_there (lane_named names word) (disk_lane 0) (NamesLane names word) (right line_fault.Unknown) (lane_found names word)
spells_value names (End kind) word right =
    end_there kind (end_named names word) (record { lane = disk_lane 0; side = Client }) (NamesEnd names word)
    (not-false (some_of_kind kind (end_named names word)) (right line_fault.Unknown)) (end_found names word)
spells_value names (Number bounds) word right =
    let is : is_number word ≡ true = not-false (is_number word) (right line_fault.Number) in
    let within : is_within bounds (number_of word) ≡ true =
    not-false (is_within bounds (number_of word)) (second_false (is_number word) (not (is_within bounds (number_of word))) is (right line_fault.Range)) in
    (number_spelled word is, within_from_test bounds (number_of word) within)
spells_value names Bytes word right = front_spelled 1024 word (not-false (is_front 1024 word) (right line_fault.Hex))
spells_value names Frame word right = front_spelled 1540 word (not-false (is_front 1540 word) (right line_fault.Hex))
spells_value names Packet word right = exactly_spelled 64 word (not-false (is_exactly 64 word) (right line_fault.Hex))
spells_value names Group word right =
    let is : is_exactly 6 word ≡ true = not-false (is_exactly 6 word) (right line_fault.Hex) in
    let spells = exactly_spelled 6 word is in (
      spells,
      group_from_test (bytes_of word) spells.long (not-false (is_group (bytes_of word)) (second_false (is_exactly 6 word) (not (is_group (bytes_of word))) is (right line_fault.Range))),
    )

spells_values : (names : NamesState) (fields : List Field) (line : List (List ℕ)) → length line ≡ length fields
    → ((which : LineFault) → list_any (λ (place : Field × List ℕ). is_wrong which names place.0 place.1) (zip fields line) ≡ false)
    → SpellsFields names fields line (field_values names fields line)
spells_values names [] [] many right = tt
spells_values names [] (word ∷ line) many right = absurd (omega (arith, many))
spells_values names (field ∷ fields) [] many right = absurd (omega (arith, many))
spells_values names (field ∷ fields) (word ∷ line) many right = (
  spells_value names field word (λ which. (or_parts (is_wrong which names field word) _ (right which)).0),
  spells_values names fields line (omega (arith, many)) (λ which. (or_parts (is_wrong which names field word) _ (right which)).1),
)

-- A ROW with as many words as it asks for
as_many_asked : (many : ℕ) (kind : RowKind) → asks_other (suc many) (Some kind) ≡ false → many ≡ length (row_of kind).fields
as_many_asked many kind right =
    let same : suc many ≡ 1 + length (row_of kind).fields = eqb-true (suc many) (1 + length (row_of kind).fields) (not-false (suc many == 1 + length (row_of kind).fields) right) in
    omega (arith, same)

spells_found : (names : NamesState) (found : Option RowKind) (others : List (List ℕ)) → is_none found ≡ false → asks_other (suc (length others)) found ≡ false
    → ((which : LineFault) → list_any (λ (place : Field × List ℕ). is_wrong which names place.0 place.1) (zip (fields_of found) others) ≡ false)
    → SpellsFound found others names (found_event names found others)
spells_found names None others some asked right = absurd (cc some)
spells_found names (Some kind) others some asked right = record {
  values = field_values names (row_of kind).fields others;
  spelled = spells_values names (row_of kind).fields others (as_many_asked (length others) kind asked) right;
  makes = refl;
}

spells_words : (names : NamesState) (ws : List (List ℕ)) → is_none (row_in ws) ≡ false → asks_other (length ws) (row_in ws) ≡ false
    → ((which : LineFault) → list_any (λ (place : Field × List ℕ). is_wrong which names place.0 place.1) (placed ws) ≡ false)
    → SpellsWords ws names (words_event names ws)
spells_words names [] some asked right = absurd (cc some)
spells_words names (word ∷ others) some asked right = spells_found names (row_named word) others some asked right

-- of a field no fault of a whole line
never : (places : List (Field × List ℕ)) → list_any (λ (place : Field × List ℕ). false) places ≡ false
never [] = refl
never (place ∷ places) = never places

of_fields : (line : List ℕ) (names : NamesState) → ((which : LineFault) → has_fault which line names ≡ false) → (which : LineFault) → has_wrong_field which line names ≡ false
of_fields line names right line_fault.Byte = never (placed (words line))
of_fields line names right line_fault.Space = never (placed (words line))
of_fields line names right line_fault.Word = never (placed (words line))
of_fields line names right line_fault.Words = never (placed (words line))
of_fields line names right which = right which

-- A BLANK LINE
blank_spelled : (line : List ℕ) → is_blank line ≡ true → has_other_byte line ≡ false → IsBlank line
blank_spelled [] is right = tt
blank_spelled (b ∷ bs) is right = (eqb-true b 35 is, (and_parts _ _ (not-false _ right)).1)

-- THE EVENT of a line without faults
by_blank : (line : List ℕ) (names : NamesState) (blank : Bool) → is_blank line ≡ blank → ((which : LineFault) → has_fault which line names ≡ false)
    → Spells line names (if blank then Blank else words_event names (words line))
by_blank line names true is right = inl (blank_spelled line is (right line_fault.Byte), refl)
by_blank line names false is right =
    inr (spells_words names (words line)
    (second_false (not (is_blank line)) (is_none (row_in (words line))) (ap not is) (right line_fault.Word))
    (right line_fault.Words) (of_fields line names right))

spells_faultless : (line : List ℕ) (names : NamesState) → ((which : LineFault) → has_fault which line names ≡ false) → Spells line names (faultless_event line names)
spells_faultless line names right = by_blank line names (is_blank line) refl right

head_false : {X : Type 0} (b : Bool) (x : X) (o : Option X) → cond b (Some x) o ≡ None → (b ≡ false) × (o ≡ None)
head_false true x o none = absurd (cc none)
head_false false x o none = (refl, none)

none_found : {X : Type 0} (test : X → Bool) (xs : List X) (k : ℕ) (d : X) → find test xs ≡ None → k < length xs → test (get_or xs k d) ≡ false
none_found test [] k d none lt = absurd (omega (arith, lt))
none_found test (x ∷ xs) zero d none lt = (head_false (test x) x (find test xs) none).0
none_found test (x ∷ xs) (suc k) d none lt = none_found test xs k d (head_false (test x) x (find test xs) none).1 (omega (arith, lt))

none_at : (line : List ℕ) (names : NamesState) (k : ℕ) → first_fault line names ≡ None → k < 12 → has_fault (get_or faults k line_fault.Byte) line names ≡ false
none_at line names k none lt = none_found (λ (which : LineFault). has_fault which line names) faults k line_fault.Byte none (omega (arith, lt))

none_holds : (line : List ℕ) (names : NamesState) → first_fault line names ≡ None → (which : LineFault) → has_fault which line names ≡ false
none_holds line names none line_fault.Byte = none_at line names 0 none (omega arith)
none_holds line names none line_fault.Space = none_at line names 1 none (omega arith)
none_holds line names none line_fault.Word = none_at line names 2 none (omega arith)
none_holds line names none line_fault.Words = none_at line names 3 none (omega arith)
none_holds line names none line_fault.Name = none_at line names 4 none (omega arith)
none_holds line names none line_fault.Place = none_at line names 5 none (omega arith)
none_holds line names none line_fault.Taken = none_at line names 6 none (omega arith)
none_holds line names none line_fault.Unknown = none_at line names 7 none (omega arith)
none_holds line names none line_fault.Number = none_at line names 8 none (omega arith)
none_holds line names none line_fault.Range = none_at line names 9 none (omega arith)
none_holds line names none line_fault.Hex = none_at line names 10 none (omega arith)
none_holds line names none line_fault.Many = none_at line names 11 none (omega arith)

pub without_fault : (line : List ℕ) (names : NamesState) → first_fault line names ≡ None → Spells line names (faultless_event line names)
without_fault line names none = spells_faultless line names (none_holds line names none)
