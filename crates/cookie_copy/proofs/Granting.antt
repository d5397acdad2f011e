-- What is granted lies in the memory.
use Rattle.std.proofs.Common.{◌≡◌, ℕ, zero, suc, ◌+◌, ◌*◌, ◌≤◌, ◌⊎◌, inl, inr, List, length, set, replicate, refl, sym, ap, ◌∙◌, arith, Option, Some, None, Bool, true, false, ◌&&◌}
use Rattle.std.proofs.lemmas.List.{get_or-set_other, get_or-set_same, set_past}
use Rattle.std.proofs.lemmas.Bool.{cases_eq, cases_lt}
use Rattle.map_table.specs.Table.{granted}
use Rattle.map_table.specs.declared.table.Entry.{Entry}
use Rattle.ldc_queue.specs.Wire.{Wire, peer_of, state_of}
use Rattle.ldc_queue.specs.declared.end.End.{End}
use Rattle.ldc_queue.specs.declared.end.End.TheVariants.{A, B}
use Rattle.cookie_copy.specs.Faults.{PagesWithin, both_up, is_up}

abbrev page_or_zero : Option Entry → ℕ
page_or_zero None = 0
page_or_zero (Some entry) = entry.page

nothing_at : (entries index : ℕ) → granted (replicate entries None) index ≡ None
nothing_at zero zero = refl
nothing_at zero (suc index) = refl
nothing_at (suc entries) zero = refl
nothing_at (suc entries) (suc index) = nothing_at entries index

-- a new table grants nothing
pub within_new : (entries size : ℕ) → PagesWithin (replicate entries None) size
within_new entries size = record { within = λ index entry found. let no : None ≡ Some entry = sym (nothing_at entries index) ∙ found in absurd (cc no) }

-- what is granted at an index after a change there
changed_at : (table : List (Option Entry)) (at : ℕ) (new : Option Entry) (index : ℕ)
    → (granted (set table at new) index ≡ granted table index) ⊎ ((index ≡ at) × (granted (set table at new) index ≡ new))
changed_at table at new index =
    elim (cases_eq index at) [
      | inl same ↦ elim (cases_lt at (length table)) [
        | inl room ↦ inr (same, ap (λ (i : ℕ). granted (set table at new) i) same ∙ get_or-set_same table at new None room)
        | inr past ↦ inl (ap (λ (t : List (Option Entry)). granted t index) (set_past table at new past))
      ]
      | inr other ↦ inl (get_or-set_other table at index new None other)
    ]

-- a page of the memory is granted
pub within_grant : (table : List (Option Entry)) (size at : ℕ) (entry : Entry) → PagesWithin table size → 8192 * entry.page + 8192 ≤ size → PagesWithin (set table at (Some entry)) size
within_grant table size at entry within room = record {
  within = λ index e found. elim (changed_at table at (Some entry) index) [
    | inl same ↦ within.within index e (sym same ∙ found)
    | inr here ↦ let is : Some entry ≡ Some e = sym here.1 ∙ found in let page : entry.page ≡ e.page = ap page_or_zero is in omega (arith, page, room)
  ];
}

-- an entry is freed
pub within_revoke : (table : List (Option Entry)) (size at : ℕ) → PagesWithin table size → PagesWithin (set table at None) size
within_revoke table size at within = record {
  within = λ index e found. elim (changed_at table at None index) [
    | inl same ↦ within.within index e (sym same ∙ found)
    | inr here ↦ let no : None ≡ Some e = sym here.1 ∙ found in absurd (cc no)
  ];
}

and_comm : (a b : Bool) → (a && b) ≡ (b && a)
and_comm true true = refl
and_comm true false = refl
and_comm false true = refl
and_comm false false = refl

-- an end and the other are the two ends
pub either_end : (end : End) (wire : Wire) → (is_up (state_of end wire) && is_up (state_of (peer_of end) wire)) ≡ both_up wire
either_end A wire = refl
either_end B wire = and_comm (is_up wire.end_b) (is_up wire.end_a)
