-- The events of one kind in a journal are those that happened to its lanes, together.
use Rattle.std.proofs.Common.{◌≡◌, ◌≤◌, ◌<◌, ℕ, zero, suc, ◌+◌, Bool, true, false, cond, List, [], ◌∷◌, length, refl, sym, ap, subst, arith}
use Rattle.std.specs.Prelude.{⊤, ◌==◌, if◌then◌else◌}
use Rattle.std.specs.List.{count_by}
use Rattle.std.proofs.lemmas.Bool.{cases_lt, eq-eqb, eqb-true}
use Rattle.std.proofs.lemmas.List.{length-set}
use Rattle.std.proofs.lemmas.Option.{slice_get_within}
use Rattle.runs.specs.Run.{Run}
use Rattle.lane_models.specs.DiskEvent.{DiskEvent}
use Rattle.world_laws.specs.Along.{event_at, happened}
use Rattle.world_laws.specs.Settle.{OfLane, SettleEntry}
use Rattle.world_laws.specs.World.{WorldState, WorldStep}
use Rattle.world_laws.proofs.Counted.{count_behind, count_more}
use Rattle.world_laws.specs.Failures.{in_entry}

-- those of so many lanes, from this number on
abbrev pub counts_on : (DiskEvent → Bool) → ℕ → ℕ → List SettleEntry → ℕ
counts_on is k zero entries = 0
counts_on is k (suc many) entries = count_by is (happened k entries) + counts_on is (k + 1) many entries

-- each event of the journal is of one of so many lanes
abbrev pub AreOf : ℕ → List SettleEntry → Type 0
AreOf many [] = ⊤
AreOf many (OfLane k event ∷ entries) = (k < many) × AreOf many entries
AreOf many (x ∷ entries) = AreOf many entries

-- ONE ENTRY counts on its lane alone
abbrev count_at : (DiskEvent → Bool) → ℕ → SettleEntry → ℕ
count_at is k entry = count_by is (event_at k entry)

abbrev counts_at : (DiskEvent → Bool) → ℕ → ℕ → SettleEntry → ℕ
counts_at is k zero entry = 0
counts_at is k (suc many) entry = count_at is k entry + counts_at is (k + 1) many entry

entry_first : (is : DiskEvent → Bool) (k many : ℕ) (entry : SettleEntry) (entries : List SettleEntry)
    → counts_on is k many (entry ∷ entries) ≡ counts_at is k many entry + counts_on is k many entries
entry_first is k zero entry entries = refl
entry_first is k (suc many) entry entries =
    omega (arith, entry_first is (k + 1) many entry entries, count_behind is (event_at k entry) (happened k entries))

own_count : (is : DiskEvent → Bool) (k j : ℕ) (event : DiskEvent) → j ≡ k → count_at is k (OfLane j event) ≡ cond (is event) 1 0
own_count is k j event same = grind (arith, count_more, eq-eqb)

other_count : (is : DiskEvent → Bool) (k j : ℕ) (event : DiskEvent) → (j ≡ k → ⊥) → count_at is k (OfLane j event) ≡ 0
other_count is k j event other = grind (arith, eqb-true)

none_behind : (is : DiskEvent → Bool) (k many j : ℕ) (event : DiskEvent) → j < k → counts_at is k many (OfLane j event) ≡ 0
none_behind is k zero j event below = refl
none_behind is k (suc many) j event below =
    omega (arith, other_count is k j event (λ same. absurd (omega (arith, below, same))), none_behind is (k + 1) many j event (omega (arith, below)))

one_lane : (is : DiskEvent → Bool) (k many j : ℕ) (event : DiskEvent) → k ≤ j → j < k + many → counts_at is k many (OfLane j event) ≡ cond (is event) 1 0
one_lane is k zero j event since below = absurd (omega (arith, since, below))
one_lane is k (suc many) j event since below = grind (arith, cases_lt, other_count, own_count, none_behind, one_lane is (k + 1) many j event)

no_lane : (is : DiskEvent → Bool) (k many : ℕ) (entry : SettleEntry) → ((j : ℕ) → event_at j entry ≡ []) → counts_at is k many entry ≡ 0
no_lane is k zero entry none = refl
no_lane is k (suc many) entry none = omega (arith, ap (count_by is) (none k), no_lane is (k + 1) many entry none)

-- ALL ENTRIES
pub all_counts : (is : DiskEvent → Bool) (many : ℕ) (entries : List SettleEntry) → AreOf many entries → count_by (in_entry is) entries ≡ counts_on is 0 many entries
all_counts is many [] are = sym (nothing 0 many)
  where
    nothing : (k n : ℕ) → counts_on is k n [] ≡ 0
    nothing k zero = refl
    nothing k (suc n) = omega (arith, nothing (k + 1) n)
all_counts is many (OfLane k event ∷ entries) are =
    omega (
      arith,
      count_more (in_entry is) (OfLane k event) entries,
      entry_first is 0 many (OfLane k event) entries,
      one_lane is 0 many k event (omega arith) (omega (arith, are.0)),
      all_counts is many entries are.1,
    )
all_counts is many (x ∷ entries) are = grind (arith, count_more, entry_first, no_lane, all_counts is many entries are)

-- what counts less on each lane counts less on all
pub counts_le : (is others : DiskEvent → Bool) (k many : ℕ) (entries : List SettleEntry)
    → ((j : ℕ) → k ≤ j → j < k + many → count_by is (happened j entries) ≤ count_by others (happened j entries)) → counts_on is k many entries ≤ counts_on others k many entries
counts_le is others k zero entries each = omega arith
counts_le is others k (suc many) entries each = grind (arith, counts_le is others (k + 1) many entries)

-- and one lane's are no more than all
pub lane_le : (is : DiskEvent → Bool) (k : ℕ) (entries : List SettleEntry) → count_by is (happened k entries) ≤ count_by (in_entry is) entries
lane_le is k [] = omega arith
lane_le is k (OfLane j event ∷ entries) =
    omega (
      arith,
      count_more (in_entry is) (OfLane j event) entries,
      count_behind is (event_at k (OfLane j event)) (happened k entries),
      at_most (j == k),
      lane_le is k entries,
    )
  where
    at_most : (b : Bool) → count_by is (if b then event ∷ [] else []) ≤ cond (is event) 1 0
    at_most true = omega (arith, count_more is event [])
    at_most false = omega arith
lane_le is k (x ∷ entries) = omega (arith, count_more (in_entry is) x entries, lane_le is k entries)

-- A RUN of a world has events of its lanes alone
pub run_of : (w : WorldState) (entries : List SettleEntry) (v : WorldState) → Run WorldStep w entries v → AreOf (length w.lanes) entries
run_of w [] v run = tt
run_of w (OfLane k event ∷ entries) v run = grind (arith, length-set, slice_get_within, run_of run.0 entries v run.2)
run_of w (entry ∷ entries) v run = subst (λ (x : WorldState). AreOf (length x.lanes) entries) run.1 (run_of run.0 entries v run.2)
