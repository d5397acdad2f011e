-- The first free entry, looked for from an index below which none is free.
use Rattle.std.proofs.Common.{◌≡◌, ℕ, zero, suc, ◌+◌, ◌-◌, ◌<◌, ◌≤◌, min, List, [], ◌∷◌, length, set, take, drop, Bool, true, false, cond, nat_lt, refl, sym, ap, ◌∙◌, arith, Option, Some, None, is_none, option_map}
use Rattle.std.proofs.lemmas.List.{length-drop, length-set, take_all}
use Rattle.std.proofs.lemmas.Bool.Decides.{nat_tests}
use Rattle.std.specs.List.{position, position_or_len}
use Rattle.map_table.specs.Table.{KeepsTaken, first_free}
use Rattle.map_table.specs.declared.table.Entry.{Entry}

-- after those that are taken the first free one is the same
pub taken_behind : {X : Type 0} (table : List (Option X)) (taken : ℕ) → taken ≤ position_or_len is_none table
    → position_or_len is_none table ≡ taken + position_or_len is_none (drop taken table)
taken_behind table zero below = omega arith
taken_behind [] (suc taken) below = absurd (omega (arith, below))
taken_behind (None ∷ table) (suc taken) below = absurd (omega (arith, below))
taken_behind (Some entry ∷ table) (suc taken) below = let rest = taken_behind table taken (omega (arith, below)) in omega (arith, rest)

-- the first free one is within the table or at its end
pub taken_within : {X : Type 0} (table : List (Option X)) → position_or_len is_none table ≤ length table
taken_within [] = omega arith
taken_within (None ∷ table) = omega arith
taken_within (Some entry ∷ table) = let rest = taken_within table in omega (arith, rest)

-- where the first free one is taken, none up to it is free
pub taken_more : {X : Type 0} (table : List (Option X)) (index : ℕ) (entry : X) → index ≡ position_or_len is_none table → index < length table
    → index + 1 ≤ position_or_len is_none (set table index (Some entry))
taken_more [] index entry is within = absurd (omega (arith, within))
taken_more (None ∷ table) zero entry is within = omega arith
taken_more (None ∷ table) (suc index) entry is within = absurd (omega (arith, is))
taken_more (Some old ∷ table) zero entry is within = absurd (omega (arith, is))
taken_more (Some old ∷ table) (suc index) entry is within =
    let rest = taken_more table index entry (omega (arith, is)) (omega (arith, within)) in omega (arith, rest)

-- where one is freed, none below it becomes free
pub taken_less : {X : Type 0} (table : List (Option X)) (taken index : ℕ) → taken ≤ position_or_len is_none table
    → min taken index ≤ position_or_len is_none (set table index None)
taken_less table zero index below = omega arith
taken_less [] (suc taken) index below = absurd (omega (arith, below))
taken_less (None ∷ table) (suc taken) index below = absurd (omega (arith, below))
taken_less (Some entry ∷ table) (suc taken) zero below = omega arith
taken_less (Some entry ∷ table) (suc taken) (suc index) below = let rest = taken_less table taken index (omega (arith, below)) in omega (arith, rest)

raised : (test : Bool) (by index : ℕ) → cond test (Some (by + index)) None ≡ option_map (λ (k : ℕ). by + k) (cond test (Some index) None)
raised true by index = refl
raised false by index = refl

-- so it is found after them, with as many before it
pub first_behind : {X : Type 0} (table : List (Option X)) (taken : ℕ) → taken ≤ length table → taken ≤ position_or_len is_none table
    → position is_none table ≡ option_map (λ (k : ℕ). taken + k) (position is_none (take (length table - taken) (drop taken table)))
first_behind {X} table taken within below =
    let rest : List (Option X) = drop taken table in
    let k : ℕ = position_or_len is_none rest in
    let long : length table ≡ taken + length rest = omega (arith, length-drop taken table) in
    let first : position_or_len is_none table ≡ taken + k = taken_behind table taken below in
    let same : nat_lt (taken + k) (taken + length rest) ≡ nat_lt k (length rest) = grind (arith, nat_tests) in
    let all : take (length table - taken) rest ≡ rest = take_all (length table - taken) rest (omega (arith, long)) in
    ap (λ (m : ℕ). cond (nat_lt m (length table)) (Some m) None) first
    ∙ ap (λ (m : ℕ). cond (nat_lt (taken + k) m) (Some (taken + k)) None) long
    ∙ ap (λ (test : Bool). cond test (Some (taken + k)) None) same
    ∙ raised (nat_lt k (length rest)) taken k
    ∙ ap (λ (xs : List (Option X)). option_map (λ (n : ℕ). taken + n) (position is_none xs)) (sym all)

Some-one : (a b : ℕ) → Some a ≡ Some b → a ≡ b
Some-one a b same = cc same

first_if : (test : Bool) (place size index : ℕ) → test ≡ nat_lt place size → Some index ≡ cond test (Some place) None → (index ≡ place) × (index < size)
first_if true place size index test_is is =
    let same : index ≡ place = Some-one index place is in let below : place < size = grind (arith, nat_tests) in (same, omega (arith, same, below))
first_if false place size index test_is is = absurd (cc is)

-- the index of the first free one, and the table's length
pub first_is : {X : Type 0} (table : List (Option X)) (index : ℕ) → Some index ≡ position is_none table
    → (index ≡ position_or_len is_none table) × (index < length table)
first_is table index is = first_if (nat_lt (position_or_len is_none table) (length table)) (position_or_len is_none table) (length table) index refl is

-- a table whose first free entry was taken
pub keeps_granted : (table : List (Option Entry)) (taken index : ℕ) (entry : Entry) → KeepsTaken table taken → Some index ≡ first_free table
    → KeepsTaken (set table index (Some entry)) (index + 1)
keeps_granted table taken index entry keeps is =
    let first = first_is table index is in
    record {
      few = omega (arith, length-set table index (Some entry), keeps.few);
      taken = taken_more table index entry first.0 first.1;
    }

-- one whose entry was freed
pub keeps_freed : (table : List (Option Entry)) (taken index : ℕ) → KeepsTaken table taken → KeepsTaken (set table index None) (min taken index)
keeps_freed table taken index keeps =
    let none : Option Entry = None in
    record {
      few = omega (arith, length-set table index none, keeps.few);
      taken = taken_less table taken index keeps.taken;
    }
