-- The one line of an event: it spells the event, and a line that spells it and isn't blank is that line.
use Rattle.std.proofs.Common.{◌≡◌, ℕ, List, [], ◌∷◌, ◌++◌, length, take, Option, Some, None, IsSomeAnd, inl, inr, refl, sym, ◌∙◌, ap, subst, append_assoc}
use Rattle.std.specs.List.{join_with_byte}
use Rattle.std.proofs.lemmas.List.{take_at}
use Rattle.std.proofs.lemmas.List.Splits.{join_with_byte-slice_split}
use Rattle.hex.proofs.HexLemmas.{decode_of-encode_lower}
use Rattle.domain_script.specs.declared.event.Event.{Event}
use Rattle.domain_script.specs.declared.event.Lane.{Lane}
use Rattle.domain_script.specs.Naming.{side_text}
use Rattle.script_words.specs.Texts.{name_text}
use Rattle.script_words.specs.declared.spelled.Name.{Name}
use Rattle.domain_script.specs.declared.fields.Field.{Field}
use Rattle.domain_script.specs.declared.fields.Field.TheVariants.{NewName, NewAddress, Named, LaneName, End, Number, Bytes, Frame, Packet, Group}
use Rattle.domain_script.specs.declared.rows.RowKind.{RowKind}
use Rattle.domain_script.specs.declared.rows.RowKind.TheVariants as row
use Rattle.domain_script.specs.NamesState.{NamesDiffer, NamesState, lane_name, names_of}
use Rattle.domain_script.specs.Printed.{AllAreBytes, AllCanStand, AreBytes, CanPrint, CanStand, EventBytes, HasName, RowBytes, RowCanStand, field_text, field_texts, followed_by, lane_text, line_text, option_text, text_said}
use Rattle.domain_script.specs.Rows.{row_named, row_of}
use Rattle.domain_script.specs.Spells.{FitFields, FitsField, FitsRow, IsBlank, NamesLane, Spells, SpellsField, SpellsFields, SpellsFound, SpellsRow, SpellsWords}
use Rattle.domain_script.specs.Values.{SaidRow, ValueOf, ValuesOf, said}
use Rattle.script_words.specs.Words.{IsName, SpellsName, words}
use Rattle.domain_script.proofs.CleanWords.{AreClean, clean_more, cut_again, fields_clean, row_clean}
use Rattle.domain_script.proofs.RowLemmas.{IsMade, made_said, said_made, word_of_row}
use Rattle.domain_script.specs.LaneKinds.{lane_at}
use Rattle.domain_script.proofs.Firsts.{first_there}
use Rattle.domain_script.proofs.LaneNames.{named_by_own}

-- a word is the text of the name that it spells
text_of_name : (word : List ℕ) (name : Name) → SpellsName word name → word ≡ name_text name
text_of_name word name spells =
    sym (take_at word _ (length word) refl) ∙ ap (λ (bytes : List ℕ). take (length word) bytes) (sym spells.bytes) ∙ ap (λ (n : ℕ). take n name.bytes) (sym spells.len)

-- WORDS AFTER A TEXT are joined to it
join_front : (text word : List ℕ) (others : List (List ℕ)) → join_with_byte 32 ((text ++ 32 ∷ word) ∷ others) ≡ join_with_byte 32 (text ∷ word ∷ others)
join_front text word [] = refl
join_front text word (other ∷ others) = append_assoc text (32 ∷ word) (32 ∷ join_with_byte 32 (other ∷ others))

are_joined : (text : List ℕ) (others : List (List ℕ)) → followed_by text others ≡ join_with_byte 32 (text ∷ others)
are_joined text [] = refl
are_joined text (word ∷ others) = are_joined (text ++ 32 ∷ word) others ∙ join_front text word others

-- THE TEXT OF A VALUE spells it
name_spells : (name : Name) → IsName name → SpellsName (name_text name) name
name_spells name is = subst (λ (w : List ℕ). SpellsName w name) (text_of_name is.word name is.spelled) is.spelled

module _ (names : NamesState) (differ : NamesDiffer names) where
  found_spells : (lane : Lane) (found : Option Name) → lane_name names lane ≡ found → IsSomeAnd found IsName → NamesLane names (option_text name_text found) lane
  found_spells lane None found is = absurd is
  found_spells lane (Some name) found is = record { name = name; spelled = name_spells name is; declared_as = named_by_own names name lane differ found }

  lane_spells : (lane : Lane) → HasName names lane → NamesLane names (lane_text names lane) lane
  lane_spells lane has = found_spells lane (lane_name names lane) refl has

  field_spells : (field : Field) (value : ValueOf field) → FitsField names field value → CanStand names field value → AreBytes field value
      → SpellsField names field (field_text names field value) value
  field_spells (NewName kind) name fits stands bytes = (name_spells name fits, stands)
  field_spells NewAddress address fits stands bytes =
      (record { long = fits.long; reads = decode_of-encode_lower address bytes; lower = refl }, fits, stands)
  field_spells (Named kind) k fits stands bytes = lane_spells (lane_at kind k) stands
  field_spells LaneName l fits stands bytes = lane_spells l stands
  field_spells (End kind) end fits stands bytes =
      (record { name = lane_text names end.lane; spelled = refl; lane_named = lane_spells end.lane stands }, fits.1)
  field_spells (Number bounds) n fits stands bytes = ((refl, fits.0), fits.1)
  field_spells Bytes fill fits stands bytes = record {
    some = fits.some;
    most = fits.most;
    room = fits.room;
    zeros = fits.zeros;
    reads = decode_of-encode_lower (take fill.len fill.bytes) bytes;
    lower = refl;
  }
  field_spells Frame piece fits stands bytes = record {
    some = fits.some;
    most = fits.most;
    room = fits.room;
    zeros = fits.zeros;
    reads = decode_of-encode_lower (take piece.len piece.bytes) bytes;
    lower = refl;
  }
  field_spells Group address fits stands bytes = (record { long = fits.long; reads = decode_of-encode_lower address bytes; lower = refl }, fits)
  field_spells Packet packet fits stands bytes = record { long = fits; reads = decode_of-encode_lower packet bytes; lower = refl }

  fields_spell : (fields : List Field) (values : ValuesOf fields) → FitFields names fields values → AllCanStand names fields values → AllAreBytes fields values
      → SpellsFields names fields (field_texts names fields values) values
  fields_spell [] values fit stand bytes = tt
  fields_spell (field ∷ fields) values fit stand bytes =
      (field_spells field values.0 fit.0 stand.0 bytes.0, fields_spell fields values.1 fit.1 stand.1 bytes.1)

named_row : (kind : RowKind) → row_named (row_of kind).word ≡ Some kind
named_row row.Disk = refl
named_row kind = refl

-- words that spell an event of a row, in one line
line_spells : (kind : RowKind) (texts : List (List ℕ)) (names : NamesState) (event : Event) → SpellsRow kind texts names event → Spells (followed_by (row_of kind).word texts) names event
line_spells kind texts names event spells =
    let clean : AreClean ((row_of kind).word ∷ texts) =
    clean_more (row_of kind).word texts (row_clean kind) (fields_clean names (row_of kind).fields texts spells.values spells.spelled) in
    let cut : words (followed_by (row_of kind).word texts) ≡ (row_of kind).word ∷ texts =
    ap (λ (l : List ℕ). words l) (are_joined (row_of kind).word texts) ∙ cut_again (row_of kind).word texts clean.graphic in
    inr (subst (λ (ws : List (List ℕ)). SpellsWords ws names event) (sym cut)
    (subst (λ (found : Option RowKind). SpellsFound found texts names event) (sym (named_row kind)) spells))

said_spells : (names : NamesState) (event : Event) (s : Option SaidRow) → NamesDiffer names → IsMade event s → FitsRow names s → RowCanStand names s → RowBytes s
    → Spells (text_said names s) names event
said_spells names event None differ is fits stands bytes = inl (tt, is)
said_spells names event (Some s) differ is fits stands bytes =
    line_spells s.kind (field_texts names (row_of s.kind).fields s.values) names event
    (record { values = s.values; spelled = fields_spell names differ (row_of s.kind).fields s.values fits stands bytes; makes = is })

-- so the line of an event spells it
pub printed_spells : (names : NamesState) (event : Event) → NamesDiffer names → CanPrint names event → EventBytes event → Spells (line_text names event) names event
printed_spells names event differ can bytes = said_spells names event (said event) differ (made_said event) can.fits can.stands bytes

-- A WORD IS THE TEXT of the value that it spells
text_of_lane : (names : NamesState) (word : List ℕ) (lane : Lane) → NamesLane names word lane → word ≡ lane_text names lane
text_of_lane names word lane named =
    text_of_name word named.name named.spelled
    ∙ ap (λ (found : Option Name). option_text name_text found) (sym (first_there (names_of lane.kind names) named.name lane.number named.declared_as.1))

text_of_field : (names : NamesState) (field : Field) (word : List ℕ) (value : ValueOf field) → SpellsField names field word value → word ≡ field_text names field value
text_of_field names (NewName kind) word name spelled = text_of_name word name spelled.0
text_of_field names NewAddress word address spelled = spelled.0.lower
text_of_field names (Named kind) word k spelled = text_of_lane names word (lane_at kind k) spelled
text_of_field names LaneName word l spelled = text_of_lane names word l spelled
text_of_field names (End kind) word end spelled =
    spelled.0.spelled ∙ ap (λ (l : List ℕ). l ++ side_text end.side) (text_of_lane names spelled.0.name end.lane spelled.0.lane_named)
text_of_field names (Number bounds) word n spelled = spelled.0.0
text_of_field names Bytes word fill spelled = spelled.lower
text_of_field names Frame word piece spelled = spelled.lower
text_of_field names Packet word packet spelled = spelled.lower
text_of_field names Group word address spelled = spelled.0.lower

texts_of_fields : (names : NamesState) (fields : List Field) (line : List (List ℕ)) (values : ValuesOf fields) → SpellsFields names fields line values → line ≡ field_texts names fields values
texts_of_fields names [] [] values spelled = refl
texts_of_fields names [] (word ∷ line) values spelled = absurd spelled
texts_of_fields names (field ∷ fields) [] values spelled = absurd spelled
texts_of_fields names (field ∷ fields) (word ∷ line) values spelled =
    ap (λ (w : List ℕ). w ∷ line) (text_of_field names field word values.0 spelled.0)
    ∙ ap (λ (l : List (List ℕ)). field_text names field values.0 ∷ l) (texts_of_fields names fields line values.1 spelled.1)

line_of_row : (line word : List ℕ) (others : List (List ℕ)) (names : NamesState) (event : Event) (kind : RowKind) → words line ≡ word ∷ others → row_named word ≡ Some kind
    → SpellsRow kind others names event → line_text names event ≡ line
line_of_row line word others names event kind are named spells =
    let texts : others ≡ field_texts names (row_of kind).fields spells.values = texts_of_fields names (row_of kind).fields others spells.values spells.spelled in
    let is : said event ≡ Some (record { kind = kind; values = spells.values }) = ap (λ (e : Event). said e) spells.makes ∙ said_made kind spells.values in
    ap (λ (s : Option SaidRow). text_said names s) is
    ∙ ap (λ (l : List (List ℕ)). followed_by (row_of kind).word l) (sym texts)
    ∙ are_joined (row_of kind).word others
    ∙ ap (λ (w : List ℕ). join_with_byte 32 (w ∷ others)) (sym (word_of_row word kind named))
    ∙ ap (λ (ws : List (List ℕ)). join_with_byte 32 ws) (sym are)
    ∙ join_with_byte-slice_split 32 line

line_of_found : (line word : List ℕ) (others : List (List ℕ)) (names : NamesState) (event : Event) (found : Option RowKind) → words line ≡ word ∷ others → row_named word ≡ found
    → SpellsFound found others names event → line_text names event ≡ line
line_of_found line word others names event None are named spells = absurd spells
line_of_found line word others names event (Some kind) are named spells = line_of_row line word others names event kind are named spells

line_of_words : (line : List ℕ) (ws : List (List ℕ)) (names : NamesState) (event : Event) → words line ≡ ws → SpellsWords ws names event → line_text names event ≡ line
line_of_words line [] names event are spells = absurd spells
line_of_words line (word ∷ others) names event are spells = line_of_found line word others names event (row_named word) are refl spells

-- so a line that isn't blank is that of its event
pub one_line : (line : List ℕ) (names : NamesState) (event : Event) → Spells line names event → (IsBlank line → ⊥) → line_text names event ≡ line
one_line line names event (inl blank) not_blank = absurd (not_blank blank.0)
one_line line names event (inr spells) not_blank = line_of_words line (words line) names event refl spells

-- and the line of an event that was spelled spells it again
pub spelled_again : (line : List ℕ) (names : NamesState) (event : Event) → Spells line names event → Spells (line_text names event) names event
spelled_again line names event (inl blank) =
    subst (λ (e : Event). Spells (line_text names e) names e) (sym blank.1) (inl (tt, refl))
spelled_again line names event (inr spells) =
    let same : line_text names event ≡ line = line_of_words line (words line) names event refl spells in
    subst (λ (l : List ℕ). Spells l names event) (sym same) (inr spells)
