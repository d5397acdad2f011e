-- A line that spells an event has none of the faults.
use Rattle.std.proofs.Common.{◌≡◌, ℕ, ◌+◌, Bool, true, false, not, List, [], ◌∷◌, length, Option, Some, None, find, zip, is_none, is_some, inl, inr, refl, sym, ◌∙◌, ap, subst, arith}
use Rattle.std.specs.Prelude.{◌==◌}
use Rattle.std.specs.List.{list_all, list_any, onto_first}
use Rattle.std.proofs.lemmas.Bool.{and_from, and_left, and_right, cond-false, eq-eqb, lt-leb, not_from_true, or_from}
use Rattle.domain_script.specs.declared.event.EndName.{EndName}
use Rattle.domain_script.specs.declared.event.Event.{Event}
use Rattle.domain_script.specs.declared.event.Lane.{Lane}
use Rattle.domain_script.specs.declared.event.LineFault.{LineFault}
use Rattle.domain_script.specs.declared.event.LineFault.TheVariants as line_fault
use Rattle.domain_script.proofs.FreeAddresses.{free_test}
use Rattle.script_words.specs.declared.spelled.Name.{Name}
use Rattle.domain_script.specs.declared.fields.Field.{Field}
use Rattle.domain_script.specs.declared.fields.Field.TheVariants.{NewName, NewAddress, Named, LaneName, End, Number, Bytes, Frame, Packet, Group}
use Rattle.domain_script.specs.declared.rows.RowKind.{RowKind}
use Rattle.script_words.specs.Addresses.{is_among, is_group, is_own}
use Rattle.domain_script.specs.Declarations.{addresses}
use Rattle.domain_script.specs.Faults.{asks_other, faults, fields_of, first_fault, has_fault, is_blank, is_empty, is_wrong, placed, row_in}
use Rattle.domain_script.specs.Naming.{first_named, lane_named, some_of_kind}
use Rattle.domain_script.specs.NamesState.{IsNameFree, NamesState, count_of}
use Rattle.domain_script.specs.Rows.{row_named, row_of}
use Rattle.domain_script.specs.Spells.{IsBlank, Spells, SpellsField, SpellsFields, SpellsFound, SpellsRow, SpellsWords}
use Rattle.domain_script.specs.Values.{ValueOf, ValuesOf}
use Rattle.script_words.specs.Words.{SpellsName, is_exactly, is_front, is_name, is_number, is_within, number_of, words, is_printable}
use Rattle.domain_script.proofs.CleanWords.{AreClean, IsClean, clean_more, fields_clean, line_prints, row_clean}
use Rattle.domain_script.proofs.FieldValues.{as_many}
use Rattle.script_words.proofs.AddressTests.{group_test, own_test, tested}
use Rattle.domain_script.proofs.NamingTests.{end_is, free_first, kind_is, kind_test, lane_is, lane_of_name}
use Rattle.domain_script.proofs.OneEvent.{words_of_hash}
use Rattle.domain_script.proofs.RowLemmas.{word_of_row}
use Rattle.script_words.proofs.WordTests.{is_exactly_from, is_front_from, is_name_from, is_number_from, name_is, number_is, within_test}

-- A FIELD whose word spells a value
not_taken : (names : NamesState) (word : List ℕ) (name : Name) → SpellsName word name → IsNameFree names name → is_some (lane_named names word) ≡ false
not_taken names word name spelled free =
    ap (λ (o : Option Lane). is_some o)
    (lane_of_name names word (is_name_from word name spelled) ∙ ap (λ (n : Name). first_named names n) (name_is word name spelled) ∙ free_first names name free)

not_wrong : (which : LineFault) (names : NamesState) (field : Field) (word : List ℕ) (value : ValueOf field) → SpellsField names field word value → is_wrong which names field word ≡ false
not_wrong line_fault.Name names (NewName kind) word name spelled = not_from_true (is_name word) (is_name_from word name spelled.0)
not_wrong line_fault.Place names (NewName kind) word name spelled = spelled.1.open_still
not_wrong line_fault.Taken names (NewName kind) word name spelled =
    not_taken names word name spelled.0 spelled.1.free
not_wrong line_fault.Taken names NewAddress word address spelled =
    tested 6 word address (λ (bytes : List ℕ). is_among bytes (addresses names.ports)) spelled.0 ∙ free_test address (addresses names.ports) spelled.2
not_wrong line_fault.Many names (NewName kind) word name spelled = lt-leb 8 (count_of kind names) spelled.1.few
not_wrong line_fault.Unknown names (Named kind) word k spelled = ap (λ (o : Option ℕ). is_none o) (kind_is names word kind k spelled)
not_wrong line_fault.Unknown names LaneName word l spelled = ap (λ (o : Option Lane). is_none o) (lane_is names word l spelled)
not_wrong line_fault.Unknown names (End kind) word end spelled =
    ap (λ (o : Option EndName). not (some_of_kind kind o)) (end_is names word end spelled.0) ∙ ap not (kind_test kind end spelled.1)
not_wrong line_fault.Number names (Number bounds) word n spelled = not_from_true (is_number word) (is_number_from word n spelled.0)
not_wrong line_fault.Range names (Number bounds) word n spelled =
    and_right (is_number word) (not (is_within bounds (number_of word)))
    (not_from_true (is_within bounds (number_of word))
    (subst (λ (k : ℕ). is_within bounds k ≡ true) (sym (number_is word n spelled.0)) (within_test bounds n spelled.1)))
not_wrong line_fault.Range names NewAddress word address spelled =
    tested 6 word address (λ (bytes : List ℕ). not (is_own bytes)) spelled.0 ∙ ap not (own_test address spelled.1)
not_wrong line_fault.Range names Group word address spelled =
    tested 6 word address (λ (bytes : List ℕ). not (is_group bytes)) spelled.0 ∙ ap not (group_test address spelled.1)
not_wrong line_fault.Hex names NewAddress word address spelled = not_from_true (is_exactly 6 word) (is_exactly_from 6 word address spelled.0)
not_wrong line_fault.Hex names Bytes word fill spelled = not_from_true (is_front 1024 word) (is_front_from 1024 word fill.len fill.bytes spelled)
not_wrong line_fault.Hex names Frame word piece spelled = not_from_true (is_front 1540 word) (is_front_from 1540 word piece.len piece.bytes spelled)
not_wrong line_fault.Hex names Packet word packet spelled = not_from_true (is_exactly 64 word) (is_exactly_from 64 word packet spelled)
not_wrong line_fault.Hex names Group word address spelled = not_from_true (is_exactly 6 word) (is_exactly_from 6 word address spelled.0)
not_wrong which names field word value spelled = refl

none_wrong : (which : LineFault) (names : NamesState) (fields : List Field) (line : List (List ℕ)) (values : ValuesOf fields) → SpellsFields names fields line values
    → list_any (λ (place : Field × List ℕ). is_wrong which names place.0 place.1) (zip fields line) ≡ false
none_wrong which names [] [] values spelled = refl
none_wrong which names [] (word ∷ line) values spelled = absurd spelled
none_wrong which names (field ∷ fields) [] values spelled = absurd spelled
none_wrong which names (field ∷ fields) (word ∷ line) values spelled =
    or_from _ _ (not_wrong which names field word values.0 spelled.0) (none_wrong which names fields line values.1 spelled.1)

-- A BLANK LINE
no_row_in_hash : (ws : List (List ℕ)) → row_in (onto_first 35 ws) ≡ None
no_row_in_hash [] = refl
no_row_in_hash (word ∷ others) = refl

blank_row : (line : List ℕ) → IsBlank line → row_in (words line) ≡ None
blank_row [] blank = refl
blank_row (b ∷ bs) blank = ap row_in (words_of_hash b bs blank.0) ∙ no_row_in_hash (words bs)

none_placed : (ws : List (List ℕ)) → row_in ws ≡ None → placed ws ≡ []
none_placed [] none = refl
none_placed (word ∷ others) none = ap (λ (found : Option RowKind). zip (fields_of found) others) none

blank_test : (line : List ℕ) → IsBlank line → is_blank line ≡ true
blank_test [] blank = refl
blank_test (b ∷ bs) blank = eq-eqb b 35 blank.0

blank_prints : (line : List ℕ) → IsBlank line → list_all is_printable line ≡ true
blank_prints [] blank = refl
blank_prints (b ∷ bs) blank = and_from _ _ (ap is_printable blank.0) blank.1

blank_faultless : (line : List ℕ) (names : NamesState) → IsBlank line → (which : LineFault) → has_fault which line names ≡ false
blank_faultless line names blank line_fault.Byte = not_from_true (list_all is_printable line) (blank_prints line blank)
blank_faultless line names blank line_fault.Space = and_left _ _ (not_from_true (is_blank line) (blank_test line blank))
blank_faultless line names blank line_fault.Word = and_left _ _ (not_from_true (is_blank line) (blank_test line blank))
blank_faultless line names blank line_fault.Words = ap (λ (found : Option RowKind). asks_other (length (words line)) found) (blank_row line blank)
blank_faultless line names blank which =
    ap (λ (places : List (Field × List ℕ)). list_any (λ (place : Field × List ℕ). is_wrong which names place.0 place.1) places) (none_placed (words line) (blank_row line blank))

-- A ROW: its words, and the kind that the first of them begins
record RowOf (line : List ℕ) (names : NamesState) (event : Event) : Type 0 where
  word : List ℕ
  others : List (List ℕ)
  are : words line ≡ word ∷ others
  kind : RowKind
  named : row_named word ≡ Some kind
  spells : SpellsRow kind others names event

found_row : (line word : List ℕ) (others : List (List ℕ)) (names : NamesState) (event : Event) (found : Option RowKind) → words line ≡ word ∷ others → row_named word ≡ found
    → SpellsFound found others names event → RowOf line names event
found_row line word others names event None are is spells = absurd spells
found_row line word others names event (Some kind) are is spells =
    record { word = word; others = others; are = are; kind = kind; named = is; spells = spells }

row_of_words : (line : List ℕ) (ws : List (List ℕ)) (names : NamesState) (event : Event) → words line ≡ ws → SpellsWords ws names event → RowOf line names event
row_of_words line [] names event are spells = absurd spells
row_of_words line (word ∷ others) names event are spells = found_row line word others names event (row_named word) are refl spells

module _ (line : List ℕ) (names : NamesState) (event : Event) (r : RowOf line names event) where
  row_is : row_in (words line) ≡ Some r.kind
  row_is = ap row_in r.are ∙ r.named

  placed_are : placed (words line) ≡ zip (row_of r.kind).fields r.others
  placed_are = ap placed r.are ∙ ap (λ (found : Option RowKind). zip (fields_of found) r.others) r.named

  clean : AreClean (words line)
  clean =
      let first = subst (λ (w : List ℕ). IsClean w) (sym (word_of_row r.word r.kind r.named)) (row_clean r.kind) in
      subst (λ (ws : List (List ℕ)). AreClean ws) (sym r.are)
      (clean_more r.word r.others first (fields_clean names (row_of r.kind).fields r.others r.spells.values r.spells.spelled))

  counted : asks_other (length (words line)) (row_in (words line)) ≡ false
  counted =
      let many : length (words line) ≡ 1 + length (row_of r.kind).fields =
      omega (arith, ap (λ (ws : List (List ℕ)). length ws) r.are, as_many names (row_of r.kind).fields r.others r.spells.values r.spells.spelled) in
      ap (λ (found : Option RowKind). asks_other (length (words line)) found) row_is
      ∙ not_from_true (length (words line) == 1 + length (row_of r.kind).fields) (eq-eqb (length (words line)) (1 + length (row_of r.kind).fields) many)

  row_faultless : (which : LineFault) → has_fault which line names ≡ false
  row_faultless line_fault.Byte = not_from_true (list_all is_printable line) (line_prints line clean)
  row_faultless line_fault.Space = and_right (not (is_blank line)) (list_any is_empty (words line)) clean.some
  row_faultless line_fault.Word = and_right (not (is_blank line)) (is_none (row_in (words line))) (ap (λ (found : Option RowKind). is_none found) row_is)
  row_faultless line_fault.Words = counted
  row_faultless which =
      ap (λ (places : List (Field × List ℕ)). list_any (λ (place : Field × List ℕ). is_wrong which names place.0 place.1) places) placed_are
      ∙ none_wrong which names (row_of r.kind).fields r.others r.spells.values r.spells.spelled

-- so a line that spells an event has no fault
pub faultless : (line : List ℕ) (names : NamesState) (event : Event) → Spells line names event → (which : LineFault) → has_fault which line names ≡ false
faultless line names event (inl blank) which = blank_faultless line names blank.0 which
faultless line names event (inr spells) which = row_faultless line names event (row_of_words line (words line) names event refl spells) which

find_none : {X : Type 0} (test : X → Bool) (xs : List X) → ((x : X) → test x ≡ false) → find test xs ≡ None
find_none test [] never = refl
find_none test (x ∷ xs) never = cond-false (test x) (Some x) (find test xs) (never x) ∙ find_none test xs never

pub no_first_fault : (line : List ℕ) (names : NamesState) (event : Event) → Spells line names event → first_fault line names ≡ None
no_first_fault line names event spells = find_none (λ (which : LineFault). has_fault which line names) faults (faultless line names event spells)
