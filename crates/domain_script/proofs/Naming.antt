-- Which lane and which end a word names.
use Rattle.std.proofs.Common.{◌≡◌, ℕ, List, [], ◌∷◌, ◌++◌, append_assoc, Option, Some, None, MatchOption, IsTrue, ◌↔◌, Bool, not, true, false, IfNone, refl, sym, ◌∙◌, ap, subst, arith}
use Rattle.std.specs.Option.{is_some}
use Rattle.std.proofs.lemmas.List.{append_cancel_right, same_from_push}
use Rattle.domain_script.specs.declared.event.EndName.{EndName}
use Rattle.domain_script.specs.declared.event.Lane.{Lane}
use Rattle.domain_script.specs.Naming.{side_text}
use Rattle.script_words.specs.declared.spelled.Name.{Name}
use Rattle.domain_script.specs.declared.event.Side.{Side}
use Rattle.domain_script.specs.declared.event.Side.TheVariants.{Client, Server}
use Rattle.domain_script.specs.NamesState.{NamesState, IsNameFree, IsLane, IsNamed}
use Rattle.domain_script.specs.Spells.{NamesEnd, NamesLane}
use Rattle.script_words.specs.Words.{SpellsName}
use Rattle.script_words.proofs.SameName.{same_name}
use Rattle.domain_script.specs.declared.fields.LaneKind.{LaneKind}
use Rattle.domain_script.specs.LaneKinds.{lane_at}
use Rattle.domain_script.proofs.LaneNames.{named_within, none_named, one_named}

-- a word spells at most one name
pub one_name : (word : List ℕ) (a b : Name) → SpellsName word a → SpellsName word b → a ≡ b
one_name word a b first second = same_name a b (first.len ∙ sym second.len) (first.bytes ∙ sym second.bytes)

-- where `find` gives nothing the name is free
pub free_tells : (names : NamesState) (name : Name) (found : Option Lane) (test : Bool) → MatchOption found (IsNameFree names name) (IsNamed names name)
    → is_some found ≡ not test → IsTrue test ↔ IsNameFree names name
free_tells names name None true free is = (λ none. free, λ free. refl)
free_tells names name None false free is = let both : false ≡ true = is in cc
free_tells names name (Some lane) true named is = let both : true ≡ false = is in cc
free_tells names name (Some lane) false named is = (λ none. let both : false ≡ true = none in cc, λ free. absurd (none_named names name lane free named))

-- a word names at most one lane
pub one_lane : (names : NamesState) (word : List ℕ) (a b : Lane) → NamesLane names word a → NamesLane names word b → a ≡ b
one_lane names word a b first second =
    one_named names second.name a b
    (subst (λ (n : Name). IsNamed names n a) (one_name word first.name second.name first.spelled second.spelled) first.declared_as)
    second.declared_as

pub one_number : (names : NamesState) (word : List ℕ) (kind : LaneKind) (j k : ℕ) → NamesLane names word (lane_at kind j) → NamesLane names word (lane_at kind k) → j ≡ k
one_number names word kind j k first second = ap (λ (l : Lane). l.number) (one_lane names word (lane_at kind j) (lane_at kind k) first second)

-- what `find` says, for the word: no lane has the name that the word spells
names_no_lane : (names : NamesState) (word : List ℕ) (name : Name) → SpellsName word name → IsNameFree names name → (lane : Lane) → NamesLane names word lane → ⊥
names_no_lane names word name spelled free lane named =
    none_named names name lane free (subst (λ (n : Name). IsNamed names n lane) (one_name word named.name name named.spelled spelled) named.declared_as)

pub none_found : (names : NamesState) (word : List ℕ) (name : Name) (found : Option Lane) → SpellsName word name
    → MatchOption found (IsNameFree names name) (IsNamed names name) → IfNone found ((lane : Lane) → NamesLane names word lane → ⊥)
none_found names word name None spelled free = names_no_lane names word name spelled free
none_found names word name (Some lane) spelled named = tt

-- the lane that a word names is declared
pub lane_within : (names : NamesState) (word : List ℕ) (lane : Lane) → NamesLane names word lane → IsLane names lane
lane_within names word lane named = named_within names named.name lane named.declared_as

-- two sides are written differently
other_letter : (xs ys : List ℕ) (a b : ℕ) → xs ++ 46 ∷ a ∷ [] ≡ ys ++ 46 ∷ b ∷ [] → a ≡ b
other_letter xs ys a b same =
    let pushed : (xs ++ 46 ∷ []) ++ a ∷ [] ≡ (ys ++ 46 ∷ []) ++ b ∷ [] = append_assoc xs (46 ∷ []) (a ∷ []) ∙ same ∙ sym (append_assoc ys (46 ∷ []) (b ∷ [])) in
    (same_from_push (xs ++ 46 ∷ []) (ys ++ 46 ∷ []) a b pushed).1

-- a word has at most one side and one name in front of it
pub one_side : (xs ys : List ℕ) (s t : Side) → xs ++ side_text s ≡ ys ++ side_text t → (xs ≡ ys) × (s ≡ t)
one_side xs ys Client Client same = (append_cancel_right xs ys (side_text Client) same, refl)
one_side xs ys Server Server same = (append_cancel_right xs ys (side_text Server) same, refl)
one_side xs ys Client Server same = let letter : 99 ≡ 115 = other_letter xs ys 99 115 same in absurd (omega (arith, letter))
one_side xs ys Server Client same = let letter : 115 ≡ 99 = other_letter xs ys 115 99 same in absurd (omega (arith, letter))

-- a word names at most one end
-- ends by their fields
pub same_end : (a b : EndName) → a.lane ≡ b.lane → a.side ≡ b.side → a ≡ b
same_end a b lanes sides =
    let first : a ≡ record { lane = b.lane; side = a.side } = ap (λ (l : Lane). let x : EndName = record { lane = l; side = a.side } in x) lanes in
    let second : record { lane = b.lane; side = a.side } ≡ b = ap (λ (s : Side). let x : EndName = record { lane = b.lane; side = s } in x) sides in
    first ∙ second

pub names_one_end : (names : NamesState) (word : List ℕ) (a b : EndName) → NamesEnd names word a → NamesEnd names word b → a ≡ b
names_one_end names word a b first second =
    let same = one_side first.name second.name a.side b.side (sym first.spelled ∙ second.spelled) in
    let named : NamesLane names second.name a.lane = subst (λ (w : List ℕ). NamesLane names w a.lane) same.0 first.lane_named in
    same_end a b (one_lane names second.name a.lane b.lane named second.lane_named) same.1

-- no lane has the name in front of the side
pub names_no_end : (names : NamesState) (word name : List ℕ) (side : Side) → word ≡ name ++ side_text side → ((l : Lane) → NamesLane names name l → ⊥)
    → (end : EndName) → NamesEnd names word end → ⊥
names_no_end names word name side is none end named =
    let same = one_side named.name name end.side side (sym named.spelled ∙ is) in
    none end.lane (subst (λ (w : List ℕ). NamesLane names w end.lane) same.0 named.lane_named)
