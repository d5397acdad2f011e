-- The lane and the end that are found for a word are those that it names.
use Rattle.std.proofs.Common.{◌≡◌, ◌≢◌, ℕ, suc, zero, ◌-◌, Bool, true, false, not, List, [], ◌∷◌, ◌++◌, length, Option, Some, None, IfNone, IfSome, is_some, refl, sym, ◌∙◌, ap, subst, arith}
use Rattle.std.specs.Prelude.{◌||◌, if◌then◌else◌}
use Rattle.std.specs.Option.{option_and_then, option_map, option_or}
use Rattle.std.specs.Str.{bytes_eq}
use Rattle.std.proofs.lemmas.Bool.{and_from, and_parts, false_from_ne_true}
use Rattle.std.proofs.lemmas.List.{drop_at, length-append, take-append-drop, take_at}
use Rattle.std.proofs.lemmas.Slice.Eq.{bytes_eq-Decides}
use Rattle.domain_script.specs.declared.event.EndName.{EndName}
use Rattle.domain_script.specs.declared.event.Lane.{Lane}
use Rattle.script_words.specs.declared.spelled.Name.{Name}
use Rattle.domain_script.specs.declared.event.Side.{Side}
use Rattle.domain_script.specs.declared.event.Side.TheVariants.{Client, Server}
use Rattle.domain_script.specs.declared.fields.EndKind.{EndKind}
use Rattle.domain_script.specs.declared.fields.EndKind.TheVariants as ends
use Rattle.domain_script.specs.Naming.{among, before_two, end_at, end_named, first_named, is_disk, is_of_kind, is_server, lane_named, last_two, number_named, kind_named, same_name, side_of, some_of_kind, side_text}
use Rattle.domain_script.specs.NamesState.{IsNameFree, IsNamed, NamesState, names_of}
use Rattle.domain_script.specs.Spells.{IsOfKind, NamesEnd, NamesLane}
use Rattle.script_words.specs.Words.{is_name, name_of}
use Rattle.domain_script.proofs.LaneKinds.{number_of_own, same_kind}
use Rattle.domain_script.proofs.LaneNames.{by_name}
use Rattle.domain_script.proofs.Naming.{one_lane}
use Rattle.script_words.proofs.SameName.{name_from_test, not_from_test, test_from_name, test_from_other}
use Rattle.script_words.proofs.WordTests.{is_name_from, name_is, name_spelled}
use Rattle.domain_script.specs.declared.fields.LaneKind.{LaneKind}
use Rattle.domain_script.specs.declared.fields.LaneKind.TheVariants as lanes
use Rattle.domain_script.specs.Firsts.{IsFirst, IsNoneOf}
use Rattle.domain_script.specs.LaneKinds.{is_same_kind, lane_at, number_if}

-- what holds of a value that an option may have
pub weaker : {A : Type 0} (o : Option A) (P Q : A → Type 0) → ((a : A) → P a → Q a) → IfSome o P → IfSome o Q
weaker None P Q more holds = tt
weaker (Some a) P Q more holds = more a holds

if_mapped : {A B : Type 0} (f : A → B) (o : Option A) (P : A → Type 0) (Q : B → Type 0) → ((a : A) → P a → Q (f a)) → IfSome o P → IfSome (option_map f o) Q
if_mapped f None P Q holds found = tt
if_mapped f (Some a) P Q holds found = holds a found

then_some : {A B : Type 0} (o : Option A) (f : A → Option B) (P : B → Type 0) → ((a : A) → o ≡ Some a → IfSome (f a) P) → IfSome (option_and_then f o) P
then_some None f P holds = tt
then_some (Some a) f P holds = holds a refl

some_of : {A : Type 0} (o : Option A) (a : A) (P : A → Type 0) → o ≡ Some a → IfSome o P → P a
some_of {A = A} o a P is holds = subst (λ (x : Option A). IfSome x P) is holds

either : {A : Type 0} (test : Bool) (first second : Option A) (P : A → Type 0) → (test ≡ true → IfSome first P) → IfSome second P → IfSome (if test then first else second) P
either true first second P left right = left refl
either false first second P left right = right

-- NAMES in a list
number_here : (test : Bool) (name other : Name) (others : List Name) (rest : Option ℕ) → (test ≡ true → other ≡ name) → (test ≡ false → other ≢ name)
    → IfSome rest (IsFirst name others) → IfSome (if test then Some 0 else option_map (λ k. suc k) rest) (IsFirst name (other ∷ others))
number_here true name other others rest is differs found = is refl
number_here false name other others None is differs found = tt
number_here false name other others (Some k) is differs found = (differs refl, found)

number_found : (name : Name) (names : List Name) → IfSome (number_named name names) (IsFirst name names)
number_found name [] = tt
number_found name (other ∷ others) =
    number_here (same_name name other) name other others (number_named name others) (λ is. name_from_test other name (sym is)) (λ is. not_from_test other name (sym is))
    (number_found name others)

number_is : (name : Name) (names : List Name) (k : ℕ) → IsFirst name names k → number_named name names ≡ Some k
number_is name [] k first = absurd first
number_is name (other ∷ others) zero first =
    ap (λ (b : Bool). if b then Some 0 else option_map (λ k. suc k) (number_named name others)) (test_from_name other name first)
number_is name (other ∷ others) (suc k) first =
    ap (λ (b : Bool). if b then Some 0 else option_map (λ k. suc k) (number_named name others)) (test_from_other other name first.0)
    ∙ ap (λ (o : Option ℕ). option_map (λ k. suc k) o) (number_is name others k first.1)

none_number : (name : Name) (names : List Name) → IsNoneOf name names → number_named name names ≡ None
none_number name [] none = refl
none_number name (other ∷ others) none =
    ap (λ (b : Bool). if b then Some 0 else option_map (λ k. suc k) (number_named name others)) (test_from_other other name none.0)
    ∙ ap (λ (o : Option ℕ). option_map (λ k. suc k) o) (none_number name others none.1)

none_after : (test : Bool) (rest : Option ℕ) → (if test then Some 0 else option_map (λ k. suc k) rest) ≡ None → (test ≡ false) × (rest ≡ None)
none_after true rest none = absurd (cc none)
none_after false None none = (refl, refl)
none_after false (Some k) none = absurd (cc none)

none_of_them : (name : Name) (names : List Name) → number_named name names ≡ None → IsNoneOf name names
none_of_them name [] none = tt
none_of_them name (other ∷ others) none =
    let parts = none_after (same_name name other) (number_named name others) none in
    (not_from_test other name (sym parts.0), none_of_them name others parts.1)

-- LANES with a name: a disk, and else a port
first_of : (names : NamesState) (name : Name) (disk port : Option ℕ) → number_named name (names_of lanes.Disk names) ≡ disk
    → IfSome disk (IsFirst name (names_of lanes.Disk names)) → IfSome port (IsFirst name (names_of lanes.Port names))
    → IfSome (option_or (option_map (lane_at lanes.Disk) disk) (option_map (lane_at lanes.Port) port)) (IsNamed names name)
first_of names name (Some k) port is first second = (tt, first)
first_of names name None None is first second = tt
first_of names name None (Some k) is first second = (none_of_them name (names_of lanes.Disk names) is, second)

first_found : (names : NamesState) (name : Name) → IfSome (first_named names name) (IsNamed names name)
first_found names name =
    first_of names name (number_named name (names_of lanes.Disk names)) (number_named name (names_of lanes.Port names)) refl
    (number_found name (names_of lanes.Disk names)) (number_found name (names_of lanes.Port names))

first_is : (names : NamesState) (name : Name) (lane : Lane) → IsNamed names name lane → first_named names name ≡ Some lane
first_is names name =
    by_name names name (λ lane. first_named names name ≡ Some lane)
    (λ k first. ap (λ (o : Option ℕ). option_or (option_map (lane_at lanes.Disk) o) (among names name lanes.Port)) (number_is name (names_of lanes.Disk names) k first))
    (λ k none first. ap (λ (o : Option ℕ). option_or (option_map (lane_at lanes.Disk) o) (among names name lanes.Port)) (none_number name (names_of lanes.Disk names) none)
    ∙ ap (λ (o : Option ℕ). option_map (lane_at lanes.Port) o) (number_is name (names_of lanes.Port names) k first))

-- of a free name there is none, and a name that none has is free
pub free_first : (names : NamesState) (name : Name) → IsNameFree names name → first_named names name ≡ None
free_first names name free =
    ap (λ (o : Option ℕ). option_or (option_map (lane_at lanes.Disk) o) (among names name lanes.Port)) (none_number name (names_of lanes.Disk names) free.0)
    ∙ ap (λ (o : Option ℕ). option_map (lane_at lanes.Port) o) (none_number name (names_of lanes.Port names) free.1)

none_of_both : (disk port : Option ℕ) → option_or (option_map (lane_at lanes.Disk) disk) (option_map (lane_at lanes.Port) port) ≡ None → (disk ≡ None) × (port ≡ None)
none_of_both None None none = (refl, refl)
none_of_both None (Some k) none = absurd (cc none)
none_of_both (Some k) port none = absurd (cc none)

pub none_free : (names : NamesState) (name : Name) → first_named names name ≡ None → IsNameFree names name
none_free names name none =
    let parts = none_of_both (number_named name (names_of lanes.Disk names)) (number_named name (names_of lanes.Port names)) none in
    (none_of_them name (names_of lanes.Disk names) parts.0, none_of_them name (names_of lanes.Port names) parts.1)

-- LANES that a word names
pub lane_found : (names : NamesState) (word : List ℕ) → IfSome (lane_named names word) (NamesLane names word)
lane_found names word =
    either (is_name word) (first_named names (name_of word)) None (NamesLane names word)
    (λ is. weaker (first_named names (name_of word)) (IsNamed names (name_of word)) (NamesLane names word)
    (λ lane named. record { name = name_of word; spelled = name_spelled word is; declared_as = named }) (first_found names (name_of word))) tt

-- the lane of a word that is a name
pub lane_of_name : (names : NamesState) (word : List ℕ) → is_name word ≡ true → lane_named names word ≡ first_named names (name_of word)
lane_of_name names word is = ap (λ (b : Bool). if b then first_named names (name_of word) else None) is

pub lane_is : (names : NamesState) (word : List ℕ) (lane : Lane) → NamesLane names word lane → lane_named names word ≡ Some lane
lane_is names word lane named =
    lane_of_name names word (is_name_from word named.name named.spelled)
    ∙ ap (λ (n : Name). first_named names n) (name_is word named.name named.spelled)
    ∙ first_is names named.name lane named.declared_as

-- and those of a kind
number_of_lane : (kind other : LaneKind) (k : ℕ) (P : Lane → Type 0) → P (lane_at other k) → IfSome (number_if kind (lane_at other k)) (λ n. P (lane_at kind n))
number_of_lane kind other k P is =
    either (is_same_kind kind other) (Some k) None (λ n. P (lane_at kind n)) (λ same. subst (λ (x : LaneKind). P (lane_at x k)) (sym (same_kind kind other same)) is) tt

pub kind_found : (names : NamesState) (word : List ℕ) (kind : LaneKind) → IfSome (kind_named kind names word) (λ k. NamesLane names word (lane_at kind k))
kind_found names word kind =
    then_some (lane_named names word) (number_if kind) (λ k. NamesLane names word (lane_at kind k))
    (λ lane is. number_of_lane kind lane.kind lane.number (NamesLane names word) (some_of (lane_named names word) lane (NamesLane names word) is (lane_found names word)))

pub kind_is : (names : NamesState) (word : List ℕ) (kind : LaneKind) (k : ℕ) → NamesLane names word (lane_at kind k) → kind_named kind names word ≡ Some k
kind_is names word kind k named =
    ap (λ (o : Option Lane). option_and_then (number_if kind) o) (lane_is names word (lane_at kind k) named) ∙ number_of_own kind k

pub kind_number : (names : NamesState) (word : List ℕ) (kind : LaneKind) (lane : Lane) (found : Option ℕ) → found ≡ number_if kind lane → NamesLane names word lane
    → IfSome found (λ k. NamesLane names word (lane_at kind k))
kind_number names word kind lane found is named =
    subst (λ (o : Option ℕ). IfSome o (λ k. NamesLane names word (lane_at kind k))) (sym is) (number_of_lane kind lane.kind lane.number (NamesLane names word) named)

not_none : (k : ℕ) (found : Option ℕ) → None ≡ found → found ≡ Some k → ⊥
not_none k found none is = let both : None ≡ Some k = none ∙ is in cc both

pub no_kind_number : (names : NamesState) (word : List ℕ) (kind : LaneKind) (lane : Lane) (found : Option ℕ) → found ≡ number_if kind lane → NamesLane names word lane
    → IfNone found ((k : ℕ) → NamesLane names word (lane_at kind k) → ⊥)
no_kind_number names word kind lane None is named = λ k other.
    not_none k (number_if kind lane) is
    (ap (λ (l : Lane). number_if kind l) (one_lane names word lane (lane_at kind k) named other) ∙ number_of_own kind k)
no_kind_number names word kind lane (Some k) is named = tt

-- ENDS
side_found : (bytes : List ℕ) → IfSome (side_of bytes) (λ side. bytes ≡ side_text side)
side_found bytes =
    either (bytes_eq bytes (side_text Client)) (Some Client) (if bytes_eq bytes (side_text Server) then Some Server else None) (λ side. bytes ≡ side_text side)
    (λ is. (bytes_eq-Decides bytes (side_text Client)).0 is)
    (either (bytes_eq bytes (side_text Server)) (Some Server) None (λ side. bytes ≡ side_text side) (λ is. (bytes_eq-Decides bytes (side_text Server)).0 is) tt)

side_is : (side : Side) → side_of (side_text side) ≡ Some side
side_is Client = refl
side_is Server = refl

side_length : (side : Side) → length (side_text side) ≡ 2
side_length Client = refl
side_length Server = refl

pub end_found : (names : NamesState) (word : List ℕ) → IfSome (end_named names word) (NamesEnd names word)
end_found names word =
    then_some (side_of (last_two word)) (λ side. option_map (end_at side) (lane_named names (before_two word))) (NamesEnd names word)
    (λ side is.
    let ends : last_two word ≡ side_text side = some_of (side_of (last_two word)) side (λ s. last_two word ≡ side_text s) is (side_found (last_two word)) in
    let all : word ≡ before_two word ++ side_text side =
    sym (take-append-drop (length word - 2) word) ∙ ap (λ (l : List ℕ). before_two word ++ l) ends in
    if_mapped (end_at side) (lane_named names (before_two word)) (NamesLane names (before_two word)) (NamesEnd names word)
    (λ l named. record { name = before_two word; spelled = all; lane_named = named }) (lane_found names (before_two word)))

front_of : (name : List ℕ) (side : Side) → before_two (name ++ side_text side) ≡ name
front_of name side = take_at name (side_text side) _ (omega (arith, length-append name (side_text side), side_length side))

behind : (name : List ℕ) (side : Side) → last_two (name ++ side_text side) ≡ side_text side
behind name side = drop_at name (side_text side) _ (omega (arith, length-append name (side_text side), side_length side))

pub end_is : (names : NamesState) (word : List ℕ) (end : EndName) → NamesEnd names word end → end_named names word ≡ Some end
end_is names word end named =
    ap (λ (w : List ℕ). end_named names w) named.spelled
    ∙ ap (λ (b : List ℕ). option_and_then (λ side. option_map (end_at side) (lane_named names (before_two (named.name ++ side_text end.side)))) (side_of b)) (behind named.name end.side)
    ∙ ap (λ (o : Option Side). option_and_then (λ side. option_map (end_at side) (lane_named names (before_two (named.name ++ side_text end.side)))) o) (side_is end.side)
    ∙ ap (λ (w : List ℕ). option_map (end_at end.side) (lane_named names w)) (front_of named.name end.side)
    ∙ ap (λ (o : Option Lane). option_map (end_at end.side) o) (lane_is names named.name end.lane named.lane_named)

-- of their kind
memory_test : (kind : LaneKind) (side : Side) → (kind ≡ lanes.Disk → side ≡ Client) → (not (is_disk kind) || not (is_server side)) ≡ true
memory_test lanes.Disk side is = ap (λ (s : Side). not (is_server s)) (is refl)
memory_test _ side is = refl

pub kind_test : (kind : EndKind) (end : EndName) → IsOfKind kind end → is_of_kind kind end ≡ true
kind_test ends.Any end is = refl
kind_test ends.DiskServer end is = and_from _ _ (ap is_disk is.0) (ap is_server is.1)
kind_test ends.WithMemory end is = memory_test end.lane.kind end.side is

of_disk : (kind : LaneKind) → is_disk kind ≡ true → kind ≡ lanes.Disk
of_disk lanes.Disk is = refl
of_disk _ is = absurd (cc is)

of_server : (side : Side) → is_server side ≡ true → side ≡ Server
of_server Client is = absurd (cc is)
of_server Server is = refl

of_client : (side : Side) → not (is_server side) ≡ true → side ≡ Client
of_client Client is = refl
of_client Server is = absurd (cc is)

with_memory : (kind : LaneKind) (side : Side) → (not (is_disk kind) || not (is_server side)) ≡ true → kind ≡ lanes.Disk → side ≡ Client
with_memory lanes.Disk side is disk = of_client side is
with_memory _ side is disk = absurd (cc disk)

pub kind_from_test : (kind : EndKind) (end : EndName) → is_of_kind kind end ≡ true → IsOfKind kind end
kind_from_test ends.Any end is = tt
kind_from_test ends.DiskServer end is =
    let parts = and_parts _ _ is in (of_disk end.lane.kind parts.0, of_server end.side parts.1)
kind_from_test ends.WithMemory end is = with_memory end.lane.kind end.side is

-- WHAT WAS FOUND for a word is what it names
none_there : {A : Type 0} (o : Option A) (P : A → Type 0) → IfSome o P → ((a : A) → P a → ⊥) → None ≡ o
none_there None P holds never = refl
none_there (Some a) P holds never = absurd (never a holds)

pub number_told : (names : NamesState) (word : List ℕ) (kind : LaneKind) (found : Option ℕ) → IfSome found (λ k. NamesLane names word (lane_at kind k))
    → IfNone found ((k : ℕ) → NamesLane names word (lane_at kind k) → ⊥) → found ≡ kind_named kind names word
number_told names word kind None some none =
    none_there (kind_named kind names word) (λ k. NamesLane names word (lane_at kind k)) (kind_found names word kind) none
number_told names word kind (Some k) some none = sym (kind_is names word kind k some)

pub lane_told : (names : NamesState) (word : List ℕ) (found : Option Lane) → IfSome found (NamesLane names word) → IfNone found ((l : Lane) → NamesLane names word l → ⊥)
    → found ≡ lane_named names word
lane_told names word None some none = none_there (lane_named names word) (NamesLane names word) (lane_found names word) none
lane_told names word (Some l) some none = sym (lane_is names word l some)

none_of_kind : (names : NamesState) (word : List ℕ) (kind : EndKind) (o : Option EndName) → IfSome o (NamesEnd names word)
    → ((end : EndName) → NamesEnd names word end → IsOfKind kind end → ⊥) → some_of_kind kind o ≡ false
none_of_kind names word kind None named never = refl
none_of_kind names word kind (Some end) named never = false_from_ne_true (is_of_kind kind end) (λ is. never end named (kind_from_test kind end is))

pub end_told : (names : NamesState) (word : List ℕ) (kind : EndKind) (found : Option EndName) → IfSome found (NamesEnd names word) → IfSome found (IsOfKind kind)
    → IfNone found ((end : EndName) → NamesEnd names word end → IsOfKind kind end → ⊥) → is_some found ≡ some_of_kind kind (end_named names word)
end_told names word kind None some is none = sym (none_of_kind names word kind (end_named names word) (end_found names word) none)
end_told names word kind (Some end) some is none =
    sym (ap (λ (o : Option EndName). some_of_kind kind o) (end_is names word end some) ∙ kind_test kind end is)
