-- Each slot that holds something is named in a list, so there are no more such slots than names.
use Rattle.std.proofs.Common.{◌≡◌, ◌==◌, ◌≢◌, ℕ, zero, suc, ◌+◌, ◌<◌, ◌≤◌, List, [], ◌∷◌, length, Option, Some, None, is_some, cond, sum_by, get_or, set, inl, inr, arith, sym, subst, ◌∙◌, refl, eq-eqb, ne_eqb, get_or-set_other}
use Rattle.std.proofs.lemmas.Bool.{cases_eq, cond-false, cond-true}
use Rattle.std.proofs.lemmas.List.Sums.{sum_by-cons}
use Rattle.std.proofs.lemmas.Option.{none-some}

-- 1 where the numbers are equal
abbrev pub same_as : ℕ → ℕ → ℕ
same_as key name = cond (name == key) 1 0

pub same_as_self : (key : ℕ) → same_as key key ≡ 1
same_as_self key = cond-true (key == key) 1 0 (eq-eqb key key refl)

pub same_as_other : (key name : ℕ) → name ≢ key → same_as key name ≡ 0
same_as_other key name other = cond-false (name == key) 1 0 (ne_eqb name key other)

module _ {X : Type 0} where
  abbrev pub held : Option X → ℕ
  held slot = cond (is_some slot) 1 0

  none_held : (slots : List (Option X)) → ((key : ℕ) (x : X) → get_or slots key None ≡ Some x → ⊥)
      → sum_by held slots ≡ 0
  none_held [] empty = refl
  none_held (None ∷ slots) empty = omega (
    arith,
    sum_by-cons held None slots,
    none_held slots
        (λ key x is. empty (suc key) x is),
  )
  none_held (Some x ∷ slots) empty = absurd (empty zero x refl)

  -- one slot is emptied
  cleared : (slots : List (Option X)) (key : ℕ) → sum_by held slots ≤ sum_by held (set slots key None) + 1
  cleared [] key = omega arith
  cleared (None ∷ slots) zero = omega (arith, sum_by-cons held None slots)
  cleared (Some x ∷ slots) zero = omega (arith, sum_by-cons held None slots, sum_by-cons held (Some x) slots)
  cleared (slot ∷ slots) (suc key) = omega (
    arith,
    sum_by-cons held slot slots,
    sum_by-cons held slot
        (set slots key None),
    cleared slots key,
  )

  cleared_is : (slots : List (Option X)) (key : ℕ) → get_or (set slots key None) key None ≡ None
  cleared_is [] key = refl
  cleared_is (slot ∷ slots) zero = refl
  cleared_is (slot ∷ slots) (suc key) = cleared_is slots key

  pub held_within : (names : List ℕ) (slots : List (Option X))
      → ((key : ℕ) (x : X) → get_or slots key None ≡ Some x → 0 < sum_by (same_as key) names)
      → sum_by held slots ≤ length names
  held_within [] slots named = omega (arith, none_held slots (λ key x is. absurd (omega (arith, named key x is))))
  held_within (name ∷ names) slots named =
      let rest : (key : ℕ) (x : X) → get_or (set slots name None) key None ≡ Some x → 0 < sum_by (same_as key) names =
      λ key x is. elim (cases_eq key name) [
        | inl at ↦ absurd (none-some x (sym (cleared_is slots name)
            ∙ subst (λ (k : ℕ). get_or (set slots name None) k None ≡ Some x) at is))
        | inr other ↦
            let was : get_or slots key None ≡ Some x = sym (get_or-set_other slots name key None None other) ∙ is in
            omega (
              arith,
              sum_by-cons (same_as key) name names,
              same_as_other key name (λ same. other (sym same)),
              named key x was,
            )
      ] in
      omega (arith, cleared slots name, held_within names (set slots name None) rest)
