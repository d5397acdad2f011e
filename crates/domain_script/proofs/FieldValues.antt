-- What the words of a row's fields spell: at most one value each, which fits its field.
use Rattle.std.proofs.Common.{◌≡◌, ℕ, zero, suc, ◌<◌, List, [], ◌∷◌, length, get_or, Option, Some, None, IsSomeAnd, refl, ◌∙◌, ap, subst, arith}
use Rattle.domain_script.specs.declared.event.Lane.{Lane}
use Rattle.script_words.specs.declared.spelled.Name.{Name}
use Rattle.script_words.specs.declared.numbers.Bounds.{Bounds}
use Rattle.script_words.specs.declared.numbers.Bounds.TheVariants as numbers
use Rattle.domain_script.specs.declared.fields.Field.{Field}
use Rattle.domain_script.specs.declared.fields.Field.TheVariants.{NewName, NewAddress, Named, LaneName, End, Number, Bytes, Frame, Packet, Group}
use Rattle.domain_script.specs.NamesState.{NamesState, lane_name, names_of}
use Rattle.domain_script.specs.Printed.{AllCanStand, CanStand, HasName}
use Rattle.domain_script.specs.Spells.{FitFields, FitsField, NamesLane, SpellsField, SpellsFields}
use Rattle.domain_script.specs.Values.{ValueOf, ValuesOf}
use Rattle.script_words.specs.Words.{IsName, IsWithin, SpellsNumber}
use Rattle.script_words.proofs.NumberLemmas.{one_number}
use Rattle.script_words.proofs.HexWords.{one_exactly, one_fill, one_piece}
use Rattle.domain_script.proofs.Naming.{lane_within, names_one_end, one_lane, one_name, one_number as one_number_of}
use Rattle.domain_script.specs.LaneKinds.{lane_at}
use Rattle.domain_script.proofs.Firsts.{first_there}

one_value : (names : NamesState) (field : Field) (word : List ℕ) (a b : ValueOf field) → SpellsField names field word a → SpellsField names field word b → a ≡ b
one_value names (NewName kind) word a b first second = one_name word a b first.0 second.0
one_value names NewAddress word a b first second = one_exactly 6 word a b first.0 second.0
one_value names (Named kind) word a b first second = one_number_of names word kind a b first second
one_value names LaneName word a b first second = one_lane names word a b first second
one_value names (End kind) word a b first second = names_one_end names word a b first.0 second.0
one_value names (Number bounds) word a b first second = one_number word a b first.0 second.0
one_value names Bytes word a b first second = one_fill word a b first second
one_value names Frame word a b first second = one_piece word a b first second
one_value names Packet word a b first second = one_exactly 64 word a b first second
one_value names Group word a b first second = one_exactly 6 word a b first.0 second.0

-- words spell at most one list of values
pub one_values : (names : NamesState) (fields : List Field) (line : List (List ℕ)) (a b : ValuesOf fields)
    → SpellsFields names fields line a → SpellsFields names fields line b → a ≡ b
one_values names [] [] a b first second = refl
one_values names [] (word ∷ line) a b first second = absurd first
one_values names (field ∷ fields) [] a b first second = absurd first
one_values names (field ∷ fields) (word ∷ line) a b first second =
    ap (λ (v : ValueOf field). let x : ValuesOf (field ∷ fields) = (v, a.1) in x) (one_value names field word a.0 b.0 first.0 second.0)
    ∙ ap (λ (vs : ValuesOf fields). let x : ValuesOf (field ∷ fields) = (b.0, vs) in x) (one_values names fields line a.1 b.1 first.1 second.1)

-- as many words as fields
pub as_many : (names : NamesState) (fields : List Field) (line : List (List ℕ)) (values : ValuesOf fields) → SpellsFields names fields line values → length line ≡ length fields
as_many names [] [] values spelled = refl
as_many names [] (word ∷ line) values spelled = absurd spelled
as_many names (field ∷ fields) [] values spelled = absurd spelled
as_many names (field ∷ fields) (word ∷ line) values spelled = ap (λ (n : ℕ). suc n) (as_many names fields line values.1 spelled.1)

-- a word spells no value as a field
abbrev pub SpellsNothing : NamesState → Field → List ℕ → Type 0
SpellsNothing names field word = (value : ValueOf field) → SpellsField names field word value → ⊥

pub no_number : (names : NamesState) (bounds : Bounds) (word : List ℕ) → ((n : ℕ) → SpellsNumber word n → IsWithin bounds n → ⊥) → SpellsNothing names (Number bounds) word
no_number names bounds word none n spelled = none n spelled.0 spelled.1

-- no values where one word spells nothing
pub nothing_at : (k : ℕ) (names : NamesState) (fields : List Field) (line : List (List ℕ)) (values : ValuesOf fields) → k < length fields
    → SpellsNothing names (get_or fields k (Number numbers.Any)) (get_or line k []) → SpellsFields names fields line values → ⊥
nothing_at k names [] line values lt none spelled = omega (arith, lt)
nothing_at k names (field ∷ fields) [] values lt none spelled = spelled
nothing_at zero names (field ∷ fields) (word ∷ line) values lt none spelled = none values.0 spelled.0
nothing_at (suc k) names (field ∷ fields) (word ∷ line) values lt none spelled =
    nothing_at k names fields line values.1 (omega (arith, lt)) none spelled.1

-- WHAT IS SPELLED FITS ITS FIELD
fits_field : (names : NamesState) (field : Field) (word : List ℕ) (value : ValueOf field) → SpellsField names field word value → FitsField names field value
fits_field names (NewName kind) word name spelled = record { word = word; spelled = spelled.0 }
fits_field names NewAddress word address spelled = spelled.1
fits_field names (Named kind) word k spelled = lane_within names word (lane_at kind k) spelled
fits_field names LaneName word l spelled = lane_within names word l spelled
fits_field names (End kind) word end spelled = (lane_within names spelled.0.name end.lane spelled.0.lane_named, spelled.1)
fits_field names (Number bounds) word n spelled = (spelled.0.1, spelled.1)
fits_field names Bytes word fill spelled = record { some = spelled.some; most = spelled.most; room = spelled.room; zeros = spelled.zeros }
fits_field names Frame word piece spelled = record { some = spelled.some; most = spelled.most; room = spelled.room; zeros = spelled.zeros }
fits_field names Packet word packet spelled = spelled.long
fits_field names Group word address spelled = spelled.1

pub fit_fields : (names : NamesState) (fields : List Field) (line : List (List ℕ)) (values : ValuesOf fields) → SpellsFields names fields line values → FitFields names fields values
fit_fields names [] line values spelled = tt
fit_fields names (field ∷ fields) [] values spelled = absurd spelled
fit_fields names (field ∷ fields) (word ∷ line) values spelled =
    (fits_field names field word values.0 spelled.0, fit_fields names fields line values.1 spelled.1)

-- and can stand in it: the lane that is named has that name
some_name : (found : Option Name) (name : Name) → found ≡ Some name → IsName name → IsSomeAnd found IsName
some_name None name is spelled = absurd (cc is)
some_name (Some own) name is spelled = let same : name ≡ own = cc is in subst IsName same spelled

lane_has_name : (names : NamesState) (word : List ℕ) (lane : Lane) → NamesLane names word lane → HasName names lane
lane_has_name names word lane named =
    some_name (lane_name names lane) named.name (first_there (names_of lane.kind names) named.name lane.number named.declared_as.1)
    (record { word = word; spelled = named.spelled })

stands_in_field : (names : NamesState) (field : Field) (word : List ℕ) (value : ValueOf field) → SpellsField names field word value → CanStand names field value
stands_in_field names (NewName kind) word name spelled = spelled.1
stands_in_field names NewAddress word address spelled = spelled.2
stands_in_field names (Named kind) word k spelled = lane_has_name names word (lane_at kind k) spelled
stands_in_field names LaneName word l spelled = lane_has_name names word l spelled
stands_in_field names (End kind) word end spelled = lane_has_name names spelled.0.name end.lane spelled.0.lane_named
stands_in_field names (Number bounds) word n spelled = tt
stands_in_field names Bytes word fill spelled = tt
stands_in_field names Frame word piece spelled = tt
stands_in_field names Packet word packet spelled = tt
stands_in_field names Group word address spelled = tt

pub stand_in_fields : (names : NamesState) (fields : List Field) (line : List (List ℕ)) (values : ValuesOf fields) → SpellsFields names fields line values → AllCanStand names fields values
stand_in_fields names [] line values spelled = tt
stand_in_fields names (field ∷ fields) [] values spelled = absurd spelled
stand_in_fields names (field ∷ fields) (word ∷ line) values spelled =
    (stands_in_field names field word values.0 spelled.0, stand_in_fields names fields line values.1 spelled.1)
