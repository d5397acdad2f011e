-- The words of a line that spells an event have printable bytes, none of them a space, and aren't empty.
use Rattle.std.proofs.Common.{◌≡◌, ℕ, ◌/◌, ◌<◌, ◌≤◌, Bool, true, false, ◌&&◌, List, [], ◌∷◌, ◌++◌, length, decimal, inl, inr, refl, sym, ◌∙◌, ap, subst, arith}
use Rattle.std.specs.Prelude.{nat_le}
use Rattle.std.specs.Char.{is_ascii_digit, is_ascii_lowercase}
use Rattle.std.specs.List.{join_with_byte, list_all, list_any}
use Rattle.std.specs.Str.Parse.{AllDigits}
use Rattle.std.proofs.lemmas.Bool.{and_from, and_parts, eqb-true, le-leb, leb-true, or_cases, or_from}
use Rattle.std.proofs.lemmas.Fmt.{decimal_is_IsNumeral}
use Rattle.std.proofs.lemmas.List.Folds.{list_all-append}
use Rattle.std.proofs.lemmas.List.Splits.{join_with_byte-slice_split}
use Rattle.std.proofs.lemmas.Str.Parse.{digit_from_value}
use Rattle.domain_script.specs.Naming.{side_text}
use Rattle.script_words.specs.declared.spelled.Name.{Name}
use Rattle.domain_script.specs.declared.event.Side.{Side}
use Rattle.domain_script.specs.declared.event.Side.TheVariants.{Client, Server}
use Rattle.domain_script.specs.declared.event.EndName.{EndName}
use Rattle.domain_script.specs.declared.event.Lane.{Lane}
use Rattle.domain_script.specs.declared.fields.Field.{Field}
use Rattle.domain_script.specs.declared.fields.Field.TheVariants.{NewName, NewAddress, Named, LaneName, End, Number, Bytes, Frame, Packet, Group}
use Rattle.domain_script.specs.declared.rows.RowKind.{RowKind}
use Rattle.domain_script.specs.declared.rows.RowKind.TheVariants as row
use Rattle.domain_script.specs.Faults.{is_empty}
use Rattle.domain_script.specs.NamesState.{NamesState}
use Rattle.script_words.specs.Pieces.{HasNo}
use Rattle.domain_script.specs.Rows.{row_of}
use Rattle.domain_script.specs.Spells.{NamesEnd, NamesLane, SpellsField, SpellsFields}
use Rattle.domain_script.specs.Values.{ValueOf, ValuesOf}
use Rattle.script_words.specs.Words.{IsNameWord, SpellsExactly, SpellsFront, SpellsName, SpellsNumber, is_lower_digit, is_name_byte, words, is_printable}
use Rattle.script_words.proofs.WordLemmas.{words_none, words_space}
use Rattle.script_words.proofs.WordTests.{is_exactly_from, is_front_from}
use Rattle.domain_script.specs.LaneKinds.{lane_at}

-- printable bytes without the space, and at least one
abbrev pub is_graphic : ℕ → Bool
is_graphic b = nat_le 33 b && nat_le b 126

pub record IsClean (word : List ℕ) : Type 0 where
  pub graphic : list_all is_graphic word ≡ true
  pub some : is_empty word ≡ false

all_more : (p q : ℕ → Bool) (xs : List ℕ) → ((b : ℕ) → p b ≡ true → q b ≡ true) → list_all p xs ≡ true → list_all q xs ≡ true
all_more p q [] more all = refl
all_more p q (x ∷ xs) more all =
    let parts = and_parts _ _ all in and_from _ _ (more x parts.0) (all_more p q xs more parts.1)

between : (b : ℕ) → 33 ≤ b → b ≤ 126 → is_graphic b ≡ true
between b low high = and_from _ _ (le-leb 33 b low) (le-leb b 126 high)

letter_graphic : (b : ℕ) → is_ascii_lowercase b ≡ true → is_graphic b ≡ true
letter_graphic b is =
    let parts = and_parts _ _ is in
    let low : 97 ≤ b = leb-true 97 b parts.0 in
    let high : b ≤ 122 = leb-true b 122 parts.1 in
    between b (omega (arith, low)) (omega (arith, high))

digit_graphic : (b : ℕ) → is_ascii_digit b ≡ true → is_graphic b ≡ true
digit_graphic b is =
    let parts = and_parts _ _ is in
    let low : 48 ≤ b = leb-true 48 b parts.0 in
    let high : b ≤ 57 = leb-true b 57 parts.1 in
    between b (omega (arith, low)) (omega (arith, high))

name_byte_graphic : (b : ℕ) → is_name_byte b ≡ true → is_graphic b ≡ true
name_byte_graphic b is = elim (or_cases _ _ is) [
  | inl letter ↦ letter_graphic b letter
  | inr digit ↦ digit_graphic b digit
]

lower_digit_graphic : (b : ℕ) → is_lower_digit b ≡ true → is_graphic b ≡ true
lower_digit_graphic b is = elim (or_cases _ _ is) [
  | inl digit ↦ digit_graphic b digit
  | inr letter ↦
      let parts = and_parts _ _ letter in
      let low : 97 ≤ b = leb-true 97 b parts.0 in
      let high : b ≤ 102 = leb-true b 102 parts.1 in
      between b (omega (arith, low)) (omega (arith, high))
]

letters_clean : (word : List ℕ) → IsNameWord word → IsClean word
letters_clean [] is = absurd is
letters_clean (b ∷ bs) is = record {
  graphic = and_from _ _ (letter_graphic b is.0) (all_more is_name_byte is_graphic bs name_byte_graphic is.1);
  some = refl;
}

name_clean : (word : List ℕ) (name : Name) → SpellsName word name → IsClean word
name_clean word name spells = letters_clean word spells.letters

side_clean : (name : List ℕ) (side : Side) → IsClean name → IsClean (name ++ side_text side)
side_clean [] side clean = absurd (cc clean.some)
side_clean (b ∷ bs) Client clean = record { graphic = list_all-append is_graphic (b ∷ bs) (side_text Client) ∙ and_from _ _ clean.graphic refl; some = refl }
side_clean (b ∷ bs) Server clean = record { graphic = list_all-append is_graphic (b ∷ bs) (side_text Server) ∙ and_from _ _ clean.graphic refl; some = refl }

lane_clean : (names : NamesState) (word : List ℕ) (l : Lane) → NamesLane names word l → IsClean word
lane_clean names word l named = name_clean word named.name named.spelled

end_clean : (names : NamesState) (word : List ℕ) (end : EndName) → NamesEnd names word end → IsClean word
end_clean names word end named =
    subst (λ (w : List ℕ). IsClean w) (sym named.spelled) (side_clean named.name end.side (lane_clean names named.name end.lane named.lane_named))

digits_graphic : (ds : List ℕ) → AllDigits 10 ds → list_all is_graphic ds ≡ true
digits_graphic [] digits = refl
digits_graphic (d ∷ ds) digits =
    let range = digit_from_value d digits.0 in
    and_from _ _ (between d (omega (arith, range.0)) (omega (arith, range.1))) (digits_graphic ds digits.1)

some_clean : (word : List ℕ) → list_all is_graphic word ≡ true → 0 < length word → IsClean word
some_clean [] graphic some = absurd (omega (arith, some))
some_clean (b ∷ bs) graphic some = record { graphic = graphic; some = refl }

number_clean : (word : List ℕ) (n : ℕ) → SpellsNumber word n → IsClean word
number_clean word n spells =
    let numeral = (decimal_is_IsNumeral n spells.1).0 in
    subst (λ (w : List ℕ). IsClean w) (sym spells.0) (some_clean (decimal n) (digits_graphic (decimal n) numeral.1) numeral.0)

front_clean : (size : ℕ) (word : List ℕ) (len : ℕ) (bytes : List ℕ) → SpellsFront size word len bytes → IsClean word
front_clean size word len bytes spells =
    let parts = and_parts _ _ (is_front_from size word len bytes spells) in
    let limits = and_parts _ _ (and_parts _ _ parts.1).1 in
    let some : 1 ≤ length word / 2 = leb-true 1 (length word / 2) limits.0 in
    some_clean word (all_more is_lower_digit is_graphic word lower_digit_graphic parts.0) (omega (arith, some))

exactly_clean : (size : ℕ) (word bytes : List ℕ) → 0 < size → SpellsExactly size word bytes → IsClean word
exactly_clean size word bytes some spells =
    let parts = and_parts _ _ (is_exactly_from size word bytes spells) in
    let half : length word / 2 ≡ size = eqb-true (length word / 2) size (and_parts _ _ parts.1).1 in
    some_clean word (all_more is_lower_digit is_graphic word lower_digit_graphic parts.0) (omega (arith, half, some))

field_clean : (names : NamesState) (field : Field) (word : List ℕ) (value : ValueOf field) → SpellsField names field word value → IsClean word
field_clean names (NewName kind) word name spelled = name_clean word name spelled.0
field_clean names NewAddress word address spelled = exactly_clean 6 word address (omega arith) spelled.0
field_clean names (Named kind) word k spelled = lane_clean names word (lane_at kind k) spelled
field_clean names LaneName word l spelled = lane_clean names word l spelled
field_clean names (End kind) word end spelled = end_clean names word end spelled.0
field_clean names (Number bounds) word n spelled = number_clean word n spelled.0
field_clean names Bytes word fill spelled = front_clean 1024 word fill.len fill.bytes spelled
field_clean names Frame word piece spelled = front_clean 1540 word piece.len piece.bytes spelled
field_clean names Packet word packet spelled = exactly_clean 64 word packet (omega arith) spelled
field_clean names Group word address spelled = exactly_clean 6 word address (omega arith) spelled.0

-- many of them
pub record AreClean (ws : List (List ℕ)) : Type 0 where
  pub graphic : list_all (list_all is_graphic) ws ≡ true
  pub some : list_any is_empty ws ≡ false

pub clean_more : (word : List ℕ) (ws : List (List ℕ)) → IsClean word → AreClean ws → AreClean (word ∷ ws)
clean_more word ws first others = record {
  graphic = and_from _ _ first.graphic others.graphic;
  some = or_from _ _ first.some others.some;
}

pub fields_clean : (names : NamesState) (fields : List Field) (line : List (List ℕ)) (values : ValuesOf fields) → SpellsFields names fields line values → AreClean line
fields_clean names [] [] values spelled = record { graphic = refl; some = refl }
fields_clean names [] (word ∷ line) values spelled = absurd spelled
fields_clean names (field ∷ fields) [] values spelled = absurd spelled
fields_clean names (field ∷ fields) (word ∷ line) values spelled =
    clean_more word line (field_clean names field word values.0 spelled.0) (fields_clean names fields line values.1 spelled.1)

pub row_clean : (kind : RowKind) → IsClean (row_of kind).word
row_clean row.Disk = record { graphic = refl; some = refl }
row_clean kind = record { graphic = refl; some = refl }

-- A LINE of clean words is printable
graphic_prints : (b : ℕ) → is_graphic b ≡ true → is_printable b ≡ true
graphic_prints b is =
    let parts = and_parts _ _ is in
    let low : 33 ≤ b = leb-true 33 b parts.0 in
    and_from _ _ (le-leb 32 b (omega (arith, low))) parts.1

word_prints : (word : List ℕ) → list_all is_graphic word ≡ true → list_all is_printable word ≡ true
word_prints word graphic = all_more is_graphic is_printable word graphic_prints graphic

joined : (ws : List (List ℕ)) → list_all (list_all is_graphic) ws ≡ true → list_all is_printable (join_with_byte 32 ws) ≡ true
joined [] all = refl
joined (w ∷ []) all = word_prints w (and_parts _ _ all).0
joined (w ∷ v ∷ ws) all =
    let parts = and_parts _ _ all in
    list_all-append is_printable w (32 ∷ join_with_byte 32 (v ∷ ws)) ∙ and_from _ _ (word_prints w parts.0) (joined (v ∷ ws) parts.1)

pub line_prints : (line : List ℕ) → AreClean (words line) → list_all is_printable line ≡ true
line_prints line clean =
    subst (λ (l : List ℕ). list_all is_printable l ≡ true) (join_with_byte-slice_split 32 line) (joined (words line) clean.graphic)

-- AND ITS WORDS are cut where they were joined
no_space : (word : List ℕ) → list_all is_graphic word ≡ true → HasNo 32 word
no_space [] graphic = tt
no_space (b ∷ bs) graphic =
    let parts = and_parts _ _ graphic in
    let low : 33 ≤ b = leb-true 33 b (and_parts _ _ parts.0).0 in
    (λ space. omega (arith, low, space), no_space bs parts.1)

pub cut_again : (w : List ℕ) (ws : List (List ℕ)) → list_all (list_all is_graphic) (w ∷ ws) ≡ true → words (join_with_byte 32 (w ∷ ws)) ≡ w ∷ ws
cut_again w [] all = words_none w (no_space w (and_parts _ _ all).0)
cut_again w (v ∷ ws) all =
    let parts = and_parts _ _ all in
    words_space w (join_with_byte 32 (v ∷ ws)) (no_space w parts.0) ∙ ap (λ (l : List (List ℕ)). w ∷ l) (cut_again v ws parts.1)
