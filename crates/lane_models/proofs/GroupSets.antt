-- Lists of groups are sets of addresses.
use Rattle.std.proofs.Common.{◌≡◌, ℕ, zero, suc, ◌<◌, ◌↔◌, Bool, true, false, Some, None, List, [], ◌∷◌, ◌++◌, length, take, refl, sym, ap, ◌∙◌, arith}
use Rattle.std.specs.Prelude.{◌&&◌, ◌||◌, ◌==◌, nat_eq, nat_le, not, slice_get, if◌then◌else◌}
use Rattle.std.specs.Cmp.Lexicographic.{pointwise}
use Rattle.std.proofs.lemmas.Bool.{and_parts, eq-eqb, eqb-true, leb-false, leb-true}
use Rattle.lane_models.proofs.Refuting.{false_true, none_some, true_false}
use Rattle.lane_models.specs.Groups.{at_most_seven, groups_after, is_in, set_groups, with_groups, without_groups}
use Rattle.lane_models.specs.GroupSets.{ComesOf, IsRefused, Once}

-- ONE ADDRESS
pub same_address : (address : List ℕ) → pointwise nat_eq address address ≡ true
same_address [] = refl
same_address (n ∷ rest) = ap (λ (b : Bool). b && pointwise nat_eq rest rest) (eq-eqb n n refl) ∙ same_address rest

address_same : (a b : List ℕ) → pointwise nat_eq a b ≡ true → a ≡ b
address_same [] [] is = refl
address_same (n ∷ a) (m ∷ b) is =
    let both = and_parts (nat_eq n m) (pointwise nat_eq a b) is in
    ap (λ (x : ℕ). x ∷ a) (eqb-true n m both.0) ∙ ap (λ (xs : List ℕ). m ∷ xs) (address_same a b both.1)
address_same a b is = grind arith

same_found : (x a : List ℕ) (groups : List (List ℕ)) → pointwise nat_eq a x ≡ true → is_in groups x ≡ is_in groups a
same_found x a groups is = ap (is_in groups) (sym (address_same a x is))

-- AMONG THEM it is that has a place
among_place : (groups : List (List ℕ)) (a : List ℕ) → is_in groups a ≡ true → (i : ℕ) × (slice_get groups i ≡ Some a)
among_place [] a is = false_true is
among_place (x ∷ groups) a is = by_test (pointwise nat_eq a x) refl is (among_place groups a)
  where
    by_test : (b : Bool) → pointwise nat_eq a x ≡ b → (b || is_in groups a) ≡ true → (is_in groups a ≡ true → (i : ℕ) × (slice_get groups i ≡ Some a)) → (i : ℕ) × (slice_get (x ∷ groups) i ≡ Some a)
    by_test true test here rest = (0, ap (λ (y : List ℕ). Some y) (sym (address_same a x test)))
    by_test false test here rest = let there = rest here in (suc there.0, there.1)

place_among : (groups : List (List ℕ)) (a : List ℕ) (i : ℕ) → slice_get groups i ≡ Some a → is_in groups a ≡ true
place_among [] a i is = none_some a is
place_among (x ∷ groups) a zero is = grind (arith, same_address)
place_among (x ∷ groups) a (suc i) is = or_second (pointwise nat_eq a x) (is_in groups a) (place_among groups a i is)
  where
    or_second : (b c : Bool) → c ≡ true → (b || c) ≡ true
    or_second true c here = refl
    or_second false c here = here

pub among : (groups : List (List ℕ)) (a : List ℕ) → (is_in groups a ≡ true) ↔ ((i : ℕ) × (slice_get groups i ≡ Some a))
among groups a = (among_place groups a, λ place. place_among groups a place.0 place.1)

-- JOINED
in_last : (groups : List (List ℕ)) (x a : List ℕ) → is_in (groups ++ x ∷ []) a ≡ (is_in groups a || pointwise nat_eq a x)
in_last [] x a = grind arith
in_last (g ∷ groups) x a = ap (λ (b : Bool). pointwise nat_eq a g || b) (in_last groups x a) ∙ or_assoc (pointwise nat_eq a g) (is_in groups a) (pointwise nat_eq a x)
  where
    or_assoc : (b c d : Bool) → (b || (c || d)) ≡ ((b || c) || d)
    or_assoc b c d = grind arith

pub joined : (groups named : List (List ℕ)) (a : List ℕ) → is_in (with_groups groups named) a ≡ (is_in groups a || is_in named a)
joined groups [] a = or_none (is_in groups a)
  where
    or_none : (b : Bool) → b ≡ (b || false)
    or_none b = grind arith
joined groups (x ∷ named) a = by_test (is_in groups x) refl (joined groups named a) (joined (groups ++ x ∷ []) named a)
  where
    by_test : (b : Bool) → is_in groups x ≡ b → is_in (with_groups groups named) a ≡ (is_in groups a || is_in named a)
        → is_in (with_groups (groups ++ x ∷ []) named) a ≡ (is_in (groups ++ x ∷ []) a || is_in named a)
        → is_in (with_groups (if b then groups else groups ++ x ∷ []) named) a ≡ (is_in groups a || (pointwise nat_eq a x || is_in named a))
    by_test b test old more = grind (arith, same_found, in_last)

-- LEFT
pub left : (groups named : List (List ℕ)) (a : List ℕ) → is_in (without_groups groups named) a ≡ (is_in groups a && not (is_in named a))
left [] named a = refl
left (g ∷ groups) named a = by_test (is_in named g) refl (pointwise nat_eq a g) refl (left groups named a)
  where
    by_test : (b : Bool) → is_in named g ≡ b → (same : Bool) → pointwise nat_eq a g ≡ same → is_in (without_groups groups named) a ≡ (is_in groups a && not (is_in named a))
        → is_in (if not b then g ∷ without_groups groups named else without_groups groups named) a ≡ ((same || is_in groups a) && not (is_in named a))
    by_test b test same is rest = grind (arith, same_found)

-- ONCE
once_last : (groups : List (List ℕ)) (x : List ℕ) → Once groups → is_in groups x ≡ false → Once (groups ++ x ∷ [])
once_last [] x once not_ = (refl, tt)
once_last (g ∷ groups) x once not_ = by_test (pointwise nat_eq x g) refl not_ (once_last groups x once.1)
  where
    by_test : (b : Bool) → pointwise nat_eq x g ≡ b → (b || is_in groups x) ≡ false → (is_in groups x ≡ false → Once (groups ++ x ∷ [])) → Once ((g ∷ groups) ++ x ∷ [])
    by_test true test here rest = true_false here
    by_test false test here rest = (
      in_last groups x g ∙ ap (λ (b : Bool). b || pointwise nat_eq g x) once.0 ∙ other (pointwise nat_eq g x) refl,
      rest here,
    )
      where
        other : (b : Bool) → pointwise nat_eq g x ≡ b → b ≡ false
        other false is = refl
        other true is = true_false (sym (same_address g) ∙ ap (λ (y : List ℕ). pointwise nat_eq y g) (address_same g x is) ∙ test)

pub once : (groups named : List (List ℕ)) → Once groups → Once (with_groups groups named)
once groups [] is = is
once groups (x ∷ named) is = by_test (is_in groups x) refl (once groups named is) (once (groups ++ x ∷ []) named)
  where
    by_test : (b : Bool) → is_in groups x ≡ b → Once (with_groups groups named) → (Once (groups ++ x ∷ []) → Once (with_groups (groups ++ x ∷ []) named))
        → Once (with_groups (if b then groups else groups ++ x ∷ []) named)
    by_test b test old more = grind (arith, once_last)

-- WHAT COMES OF A MESSAGE
seven_none : (groups : List (List ℕ)) → at_most_seven groups ≡ None → 7 < length groups
seven_none groups is = grind (arith, none_some, leb-false)

none_seven : (groups : List (List ℕ)) → 7 < length groups → at_most_seven groups ≡ None
none_seven groups more = grind (arith, leb-true)

seven_some : (groups behind : List (List ℕ)) → at_most_seven groups ≡ Some behind → behind ≡ groups
seven_some groups behind is = grind (arith, none_some)

above_one : (set : ℕ) → (set == 1) ≡ false → (set == 0) ≡ false → 1 < set
above_one set one none = grind (arith, true_false)

module _ (set count : ℕ) (seven groups : List (List ℕ)) where
  abbrev named : List (List ℕ)
  named = take count seven

  pub why_refused : groups_after set count seven groups ≡ None → IsRefused set count seven groups
  why_refused is = grind (arith, eqb-true, seven_none, none_some, above_one, leb-false)

  pub is_refused : IsRefused set count seven groups → groups_after set count seven groups ≡ None
  is_refused why = grind (arith, leb-true, none_seven, eqb-true)

  pub refused : (groups_after set count seven groups ≡ None) ↔ IsRefused set count seven groups
  refused = (why_refused, is_refused)

  pub comes : (behind : List (List ℕ)) → groups_after set count seven groups ≡ Some behind → ComesOf set count seven groups behind
  comes behind is = by_test (nat_le count 7) is
    where
      by_test : (b : Bool) → (if b then set_groups set named groups else None) ≡ Some behind → ComesOf set count seven groups behind
      by_test b here = grind (arith, eqb-true, seven_some, none_some)
