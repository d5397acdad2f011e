-- Lanes with marks that say which of them had a tick, where each mark is one tick of the part.
use Rattle.std.proofs.Common.{◌≡◌, ℕ, ◌+◌, ◌≤◌, Bool, true, List, ◌∷◌, arith}
use Rattle.std.proofs.lemmas.Bool.{eq-eqb}
use Rattle.lane_kinds.specs.LaneCounts.{mark_at}
use Rattle.lane_kinds.specs.Lanes.{EachAt, EachMarked}

later : (a b n : ℕ) → a + b ≤ n → b ≤ n
later a b n less = omega (arith, less)

-- the marks, from this number on, are ticks that are counted, and no lane has two
pub record AreTicks (ticks : ℕ → ℕ) (j : ℕ) (marks : List Bool) : Type 0 where
  pub marked : (k : ℕ) → mark_at k j marks ≤ ticks k
  pub most : (k : ℕ) → ticks k ≤ 1

has_tick : (ticks : ℕ → ℕ) (j : ℕ) (had : Bool) (marks : List Bool) → AreTicks ticks j (had ∷ marks) → had ≡ true → ticks j ≡ 1
has_tick ticks j had marks given is = grind (arith, eq-eqb)

-- WHAT HOLDS OF EACH with its mark holds with its tick
module _ {S : Type 0} (P : S → Bool → Type 0) (Q : ℕ → S → Type 0) (ticks : ℕ → ℕ) (told : (j : ℕ) (s : S) (had : Bool) → (had ≡ true → ticks j ≡ 1) → P s had → Q j s) where
  pub each_ticked : (j : ℕ) (lanes : List S) (marks : List Bool) → AreTicks ticks j marks → EachMarked P lanes marks → EachAt Q j lanes
  each_ticked j (s ∷ lanes) (had ∷ marks) at each = grind (arith, has_tick, later, each_ticked (j + 1) lanes marks)
  each_ticked j lanes marks given each = grind arith
