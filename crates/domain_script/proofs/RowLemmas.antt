-- The events of rows: at most one for a row's words, and none where the words don't fit.
use Rattle.std.proofs.Common.{◌≡◌, ◌≢◌, ℕ, zero, suc, ◌<◌, List, [], ◌∷◌, length, get_or, ◌+◌, drop, true, false, Bool, Option, Some, None, IfNone, OnSome, refl, sym, ◌∙◌, ap, subst, arith}
use Rattle.std.specs.Prelude.{if◌then◌else◌}
use Rattle.std.specs.Str.{bytes_eq}
use Rattle.std.proofs.lemmas.Slice.Eq.{bytes_eq-Decides}
use Rattle.script_words.specs.vdisk_msg.declared.request.Fill.{Fill}
use Rattle.script_words.specs.vdisk_msg.declared.request.Request.TheVariants.{Read, Write, Flush}
use Rattle.domain_script.specs.declared.event.Event.{Event}
use Rattle.script_words.specs.declared.spelled.Piece.{Piece}
use Rattle.domain_script.specs.declared.event.EndName.{EndName}
use Rattle.domain_script.specs.declared.event.Event.TheVariants.{Blank, Inject, Issue, Poke, Send}
use Rattle.script_words.specs.declared.numbers.Bounds.TheVariants as numbers
use Rattle.domain_script.specs.declared.fields.EndKind.TheVariants as ends
use Rattle.domain_script.specs.declared.fields.Field.{Field}
use Rattle.domain_script.specs.declared.fields.Field.TheVariants.{Number}
use Rattle.domain_script.specs.declared.rows.RowKind.{RowKind}
use Rattle.domain_script.specs.declared.rows.RowKind.TheVariants as row
use Rattle.domain_script.specs.LaneKinds.{disk_lane, port_lane}
use Rattle.domain_script.specs.NamesState.{NamesState}
use Rattle.domain_script.specs.Printed.{CanPrint, RowCanStand}
use Rattle.domain_script.specs.Rows.{row_among, row_named, row_of, rows}
use Rattle.domain_script.specs.Spells.{FitsRow, IsOfKind, NamesEnd, NamesLane, SpellsFields, SpellsFound, SpellsRow}
use Rattle.domain_script.specs.Values.{SaidRow, ValuesOf, made, said}
use Rattle.script_words.specs.Limits.{packet_bytes}
use Rattle.script_words.specs.Words.{SpellsExactly, SpellsNumber, SpellsFill, SpellsPiece}
use Rattle.domain_script.proofs.FieldValues.{SpellsNothing, as_many, fit_fields, nothing_at, one_values, stand_in_fields}

-- AN EVENT AND WHAT IT IS MADE OF, there and back
pub said_made : (kind : RowKind) (values : ValuesOf (row_of kind).fields) → said (made kind values) ≡ Some (record { kind = kind; values = values })
said_made row.Disk values = refl
said_made kind values = refl

abbrev pub IsMade : Event → Option SaidRow → Type 0
IsMade event None = event ≡ Blank
IsMade event (Some s) = event ≡ made s.kind s.values

pub made_said : (event : Event) → IsMade event (said event)
made_said Blank = refl
made_said (Issue disk (Write block count fill)) = refl
made_said (Issue disk (Read block count)) = refl
made_said (Issue disk Flush) = refl
made_said event = refl

-- the words of a row spell at most one event
pub one_of_row : (kind : RowKind) (line : List (List ℕ)) (names : NamesState) (a b : Event) → SpellsRow kind line names a → SpellsRow kind line names b → a ≡ b
one_of_row kind line names a b first second =
    let same : first.values ≡ second.values = one_values names (row_of kind).fields line first.values second.values first.spelled second.spelled in
    first.makes ∙ ap (λ (vs : ValuesOf (row_of kind).fields). made kind vs) same ∙ sym second.makes

-- so many words spell nothing
pub no_row_of_length : (kind : RowKind) (line : List (List ℕ)) (names : NamesState) → length line ≢ length (row_of kind).fields
    → (event : Event) → SpellsRow kind line names event → ⊥
no_row_of_length kind line names other event spells = other (as_many names (row_of kind).fields line spells.values spells.spelled)

-- words of which one spells nothing as its field
pub no_row_at : (k : ℕ) (kind : RowKind) (line others : List (List ℕ)) (names : NamesState) → line ≡ others → k < length (row_of kind).fields
    → SpellsNothing names (get_or (row_of kind).fields k (Number numbers.Any)) (get_or others k []) → (event : Event) → SpellsRow kind line names event → ⊥
no_row_at k kind line others names is lt none event spells =
    nothing_at k names (row_of kind).fields others spells.values lt none
    (subst (λ (l : List (List ℕ)). SpellsFields names (row_of kind).fields l spells.values) is spells.spelled)

-- the event of a row fits it, and can be printed
pub row_printable : (kind : RowKind) (line : List (List ℕ)) (names : NamesState) (event : Event) → SpellsRow kind line names event → CanPrint names event
row_printable kind line names event spells =
    let is : said event ≡ Some (record { kind = kind; values = spells.values }) =
    ap (λ (e : Event). said e) spells.makes ∙ said_made kind spells.values in
    record {
      fits = subst (λ (s : Option SaidRow). FitsRow names s) (sym is) (fit_fields names (row_of kind).fields line spells.values spells.spelled);
      stands = subst (λ (s : Option SaidRow). RowCanStand names s) (sym is) (stand_in_fields names (row_of kind).fields line spells.values spells.spelled);
    }

-- a row's one word
pub no_one : {A : Type 0} (found : Option A) (names : NamesState) (field : Field) (line : List (List ℕ)) (word : List ℕ) → line ≡ word ∷ []
    → IfNone found (SpellsNothing names field word) → IfNone found ((values : ValuesOf (field ∷ [])) → SpellsFields names (field ∷ []) line values → ⊥)
no_one None names field line word is none = λ values spelled. none values.0 (subst (λ (l : List (List ℕ)). SpellsFields names (field ∷ []) l values) is spelled).0
no_one (Some a) names field line word is none = tt

-- a write's row is spelled exactly where its bytes are
pub if_filled : (found : Option Unit) (line : List (List ℕ)) (names : NamesState) (word place size digits : List ℕ) (disk block count : ℕ) (fill : Fill)
    → line ≡ word ∷ place ∷ size ∷ digits ∷ [] → NamesLane names word (disk_lane disk) → SpellsNumber place block → SpellsNumber size count
    → OnSome found (SpellsFill digits fill) → OnSome found (SpellsRow row.Write line names (Issue disk (Write block count fill)))
if_filled None line names word place size digits disk block count fill is named b c filled = tt
if_filled (Some done) line names word place size digits disk block count fill is named b c filled = record {
  values = (disk, (block, (count, (fill, tt))));
  spelled = rw is (named, ((b, tt), ((c, tt), (filled, tt))));
  makes = refl;
}

pub if_unfilled : (found : Option Unit) (line : List (List ℕ)) (names : NamesState) (word place size digits : List ℕ)
    → line ≡ word ∷ place ∷ size ∷ digits ∷ [] → IfNone found ((fill : Fill) → SpellsFill digits fill → ⊥)
    → IfNone found ((event : Event) → SpellsRow row.Write line names event → ⊥)
if_unfilled None line names word place size digits is none =
    no_row_at 3 row.Write line (word ∷ place ∷ size ∷ digits ∷ []) names is (omega arith) none
if_unfilled (Some done) line names word place size digits is none = tt

-- and so is that of a poke
pub if_poked : (found : Option Unit) (line : List (List ℕ)) (names : NamesState) (word place digits : List ℕ) (end : EndName) (at : ℕ) (fill : Fill)
    → line ≡ word ∷ place ∷ digits ∷ [] → NamesEnd names word end × IsOfKind ends.WithMemory end → SpellsNumber place at
    → OnSome found (SpellsFill digits fill) → OnSome found (SpellsRow row.Poke line names (Poke end at fill))
if_poked None line names word place digits end at fill is named n filled = tt
if_poked (Some done) line names word place digits end at fill is named n filled = record {
  values = (end, (at, (fill, tt)));
  spelled = rw is (named, ((n, tt), (filled, tt)));
  makes = refl;
}

-- and that of a packet
pub if_injected : (found : Option Unit) (line : List (List ℕ)) (names : NamesState) (word digits : List ℕ) (end : EndName) (packet : List ℕ)
    → line ≡ word ∷ digits ∷ [] → NamesEnd names word end × IsOfKind ends.Any end
    → OnSome found (SpellsExactly packet_bytes digits packet) → OnSome found (SpellsRow row.Inject line names (Inject end packet))
if_injected None line names word digits end packet is named filled = tt
if_injected (Some done) line names word digits end packet is named filled = record {
  values = (end, (packet, tt));
  spelled = rw is (named, (filled, tt));
  makes = refl;
}

-- and that of a frame
pub if_sent : (found : Option Unit) (line : List (List ℕ)) (names : NamesState) (word digits : List ℕ) (port : ℕ) (piece : Piece)
    → line ≡ word ∷ digits ∷ [] → NamesLane names word (port_lane port) → OnSome found (SpellsPiece digits piece)
    → OnSome found (SpellsRow row.Send line names (Send port piece))
if_sent None line names word digits port piece is named filled = tt
if_sent (Some done) line names word digits port piece is named filled = record {
  values = (port, (piece, tt));
  spelled = rw is (named, (filled, tt));
  makes = refl;
}

-- as many words as the row that was found doesn't have
pub no_row_found : (kind : RowKind) (line : List (List ℕ)) (names : NamesState) (word : List ℕ) → row_named word ≡ Some kind
    → length line ≢ length (row_of kind).fields → (event : Event) → SpellsFound (row_named word) line names event → ⊥
no_row_found kind line names word is other event spells =
    no_row_of_length kind line names other event (subst (λ (found : Option RowKind). SpellsFound found line names event) is spells)

-- the row that was found begins with the word
first_or_later : (word : List ℕ) (first kind : RowKind) (kinds : List RowKind) (test : Bool) → bytes_eq word (row_of first).word ≡ test
    → (row_among word kinds ≡ Some kind → word ≡ (row_of kind).word) → row_among word (first ∷ kinds) ≡ Some kind → word ≡ (row_of kind).word
first_or_later word first kind kinds true same later is =
    let head : row_among word (first ∷ kinds) ≡ Some first = ap (λ (b : Bool). if b then Some first else row_among word kinds) same in
    let found : Some first ≡ Some kind = sym head ∙ is in
    let one : first ≡ kind = cc found in
    (bytes_eq-Decides word (row_of first).word).0 same ∙ ap (λ (k : RowKind). (row_of k).word) one
first_or_later word first kind kinds false other later is =
    let behind : row_among word (first ∷ kinds) ≡ row_among word kinds = ap (λ (b : Bool). if b then Some first else row_among word kinds) other in
    later (sym behind ∙ is)

word_among : (word : List ℕ) (kinds : List RowKind) (kind : RowKind) → row_among word kinds ≡ Some kind → word ≡ (row_of kind).word
word_among word [] kind is = absurd (cc is)
word_among word (first ∷ kinds) kind is =
    first_or_later word first kind kinds (bytes_eq word (row_of first).word) refl (word_among word kinds kind) is

pub word_of_row : (word : List ℕ) (kind : RowKind) → row_named word ≡ Some kind → word ≡ (row_of kind).word
word_of_row word kind is = word_among word rows kind is

past_row : (word : List ℕ) (k : ℕ) (kinds : List RowKind) (kind : RowKind) → k < length kinds → bytes_eq word (row_of (get_or kinds k kind)).word ≡ false
    → row_among word (drop k kinds) ≡ row_among word (drop (suc k) kinds)
past_row word k [] kind lt other = absurd (omega (arith, lt))
past_row word zero (first ∷ kinds) kind lt other = rw other refl
past_row word (suc k) (first ∷ kinds) kind lt other = past_row word k kinds kind (omega (arith, lt)) other

-- past a row that a word doesn't begin
pub not_yet : (word : List ℕ) (k next : ℕ) (kinds : List RowKind) (kind : RowKind) → next ≡ k + 1 → k < length kinds → bytes_eq word (row_of (get_or kinds k kind)).word ≡ false
    → row_among word (drop k kinds) ≡ row_among word (drop next kinds)
not_yet word k next kinds kind is lt other =
    let more : next ≡ suc k = omega (arith, is) in
    past_row word k kinds kind lt other ∙ ap (λ (n : ℕ). row_among word (drop n kinds)) (sym more)
