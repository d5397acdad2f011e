-- What a count of faults says of an answer. The count of a source, a sink, a store or a host never falls,
-- and stands still at the last value of a u64, as a store's count of calls does.
use Rattle.std.specs.Prelude.{◌≡◌, ℕ, zero, suc, ◌+◌, ◌-◌, ◌^◌, ◌<◌, ◌≤◌, Bool, true, false, min}

-- where the count stops
abbrev pub last_count : ℕ
last_count = 2 ^ 64 - 1

-- a count one higher
abbrev pub next_count : ℕ → ℕ
next_count count = min (count + 1) last_count

-- a count after n more
abbrev pub count_after : ℕ → ℕ → ℕ
count_after zero count = count
count_after (suc n) count = next_count (count_after n count)

-- The count rose, or stands at its last value.
abbrev pub Rose : ℕ → ℕ → Type 0
Rose before now = before < last_count → before < now

-- A CALL that failed exactly where this holds: then the count rose, once, and else it stayed.
pub record Fails (failed : Type 0) (before now : ℕ) : Type 0 where
  pub unfailed : (failed → ⊥) → now ≡ before
  pub count : before ≤ now
  pub cause : failed → Rose before now
  pub once : failed → now ≡ next_count before

-- One that counts exactly one fault where it failed, and none else.
abbrev pub FaultsAfter : Bool → ℕ → ℕ → Type 0
FaultsAfter true before now = now ≡ next_count before
FaultsAfter false before now = now ≡ before
