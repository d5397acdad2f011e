-- No end of a lane finds no room three times with nothing else between, over the part of a settle and over a front of
-- it.
use Rattle.std.proofs.Common.{◌≡◌, ℕ, ◌+◌, ◌≤◌, ◌⊎◌, Bool, List, [], ◌∷◌, ◌++◌, refl, arith, append_assoc}
use Rattle.runs.specs.Run.{Run}
use Rattle.lane_kinds.proofs.Counting.{goes_moves}
use Rattle.lane_kinds.specs.Fronts.{Fronts, SettleFront}
use Rattle.lane_kinds.specs.Laws.{FrontsUnstick, Unsticks}
use Rattle.lane_kinds.specs.Rounds.{Rounds}
use Rattle.lane_kinds.specs.Settles.{GoesOn, SettlePart, SettleRound, Settling, TicksBehind, entries_of_rounds}
use Rattle.lane_kinds.specs.Stuck.{NeverThree, sum_over}

-- SUMS over entries one after another
regroup : (a b c d : ℕ) → b ≡ c + d → a + b ≡ (a + c) + d
regroup a b c d is = omega (arith, is)

nothing_first : (n : ℕ) → n ≡ 0 + n
nothing_first n = omega (arith)

pub sum_both : {E : Type 0} (count : E → ℕ) (before behind : List E) → sum_over count (before ++ behind) ≡ sum_over count before + sum_over count behind
sum_both count [] behind = nothing_first (sum_over count behind)
sum_both count (x ∷ before) behind = regroup (count x) (sum_over count (before ++ behind)) (sum_over count before) (sum_over count behind) (sum_both count before behind)

abbrev stuck_after : {E : Type 0} → (ℕ → E → ℕ) → ℕ → List E → ℕ
stuck_after stuck n [] = n
stuck_after stuck n (x ∷ part) = stuck_after stuck (stuck n x) part

never_both : {E : Type 0} (stuck : ℕ → E → ℕ) (n : ℕ) (before behind : List E) → NeverThree stuck n before → NeverThree stuck (stuck_after stuck n before) behind → NeverThree stuck n (before ++ behind)
never_both stuck n [] behind one two = two
never_both stuck n (x ∷ before) behind one two = (one.0, never_both stuck (stuck n x) before behind one.1 two)

stuck_both : {E : Type 0} (stuck : ℕ → E → ℕ) (n : ℕ) (before behind : List E) → stuck_after stuck n (before ++ behind) ≡ stuck_after stuck (stuck_after stuck n before) behind
stuck_both stuck n [] behind = refl
stuck_both stuck n (x ∷ before) behind = stuck_both stuck (stuck n x) before behind

up_to_two : (s n b rest : ℕ) → s ≤ n + b → n + (b + rest) ≤ 2 → (s ≤ 2) × (s + rest ≤ 2)
up_to_two s n b rest one all = (omega (arith, one, all), omega (arith, one, all))

on_top : (a s n b rest : ℕ) → a ≤ s + rest → s ≤ n + b → a ≤ n + (b + rest)
on_top a s n b rest one two = omega (arith, one, two)

rest_moves : (m rest : ℕ) → m ≡ 0 → 1 ≤ m + rest → 1 ≤ rest
rest_moves m rest none some = omega (arith, none, some)

more_blocked : (a b rest : ℕ) → a ≤ rest → a ≤ b + rest
more_blocked a b rest less = omega (arith, less)

from_none : (a s b rest : ℕ) → a ≤ s + rest → s ≡ 0 → a ≤ b + rest
from_none a s b rest one two = omega (arith, one, two)

sum_once : (a b c : ℕ) → a ≡ b + c → b ≤ 1 → c ≤ 0 → a ≤ 1
sum_once a b c is one none = omega (arith, is, one, none)

two_more : (n b : ℕ) → n ≤ 1 → b ≤ 1 → n + b ≤ 2
two_more n b one two = omega (arith, one, two)

up_to_one : (a b : ℕ) → a ≤ b → b ≤ 1 → a ≤ 1
up_to_one a b one two = omega (arith, one, two)

answered : (n a : ℕ) → a ≡ 0 → n + (a + 0) ≤ n
answered n a none = omega (arith, none)

none_once : (a : ℕ) → a ≤ 0 → a ≤ 1
none_once a none = omega (arith, none)

alone : (a : ℕ) → a ≡ 0 → a + 0 ≤ 0
alone a none = omega (arith, none)

front_none : (all a b : ℕ) → all ≡ a + b → all ≤ 0 → a ≤ 1
front_none all a b sum none = omega (arith, sum, none)

module _ {W M R E : Type 0} (K : Rounds W M R E) (stuck : ℕ → E → ℕ) (blocked moves : E → ℕ) (laws : Unsticks K stuck blocked moves) where
  never_where : (n : ℕ) (part : List E) → n + sum_over blocked part ≤ 2 → NeverThree stuck n part
  never_where n [] few = tt
  never_where n (x ∷ part) few = grind (arith, up_to_two, never_where (stuck n x) part)

  stuck_bound : (n : ℕ) (part : List E) → stuck_after stuck n part ≤ n + sum_over blocked part
  stuck_bound n [] = omega (arith)
  stuck_bound n (x ∷ part) = on_top (stuck_after stuck (stuck n x) part) (stuck n x) n (blocked x) (sum_over blocked part) (stuck_bound (stuck n x) part) (laws.most n x)

  behind_kind : (n : ℕ) (x : E) (part : List E) → (moves x ≡ 0) ⊎ ((n : ℕ) → stuck n x ≡ 0) → 1 ≤ moves x + sum_over moves part
      → (1 ≤ sum_over moves part → stuck_after stuck (stuck n x) part ≤ sum_over blocked part) → stuck_after stuck (stuck n x) part ≤ blocked x + sum_over blocked part
  behind_kind n x part given some rest = grind (arith, more_blocked, rest_moves, from_none, stuck_bound)

  stuck_behind : (n : ℕ) (part : List E) → 1 ≤ sum_over moves part → stuck_after stuck n part ≤ sum_over blocked part
  stuck_behind n [] some = absurd (omega (arith, some))
  stuck_behind n (x ∷ part) some = behind_kind n x part (laws.or_none x) some (λ more. stuck_behind (stuck n x) part more)

  -- A ROUND THAT GOES ON
  once_behind : (quiet : Bool) (w : Settling W M) (steps : R) (between : W) (entries : List E) (v : Settling W M) → K.Makes w.lanes steps between
      → TicksBehind K quiet w steps between entries v → sum_over blocked entries ≤ 1
  once_behind quiet w steps between entries v made behind = grind (arith, sum_once, sum_both)

  record Unstuck (n : ℕ) (part : List E) : Type 0 where
    never : NeverThree stuck n part
    after : stuck_after stuck n part ≤ 1

  rounds_unstuck : (n : ℕ) (w : Settling W M) (rounds : List (SettleRound R E)) (v : Settling W M) → n ≤ 1 → Run (GoesOn K) w rounds v → Unstuck n (entries_of_rounds rounds)
  rounds_unstuck n w (round ∷ rounds) v few run =
      grind (arith, once_behind, goes_moves, up_to_one, stuck_behind, never_both, never_where, two_more, stuck_both, rounds_unstuck (stuck_after stuck n round.entries) run.0 rounds v)
  rounds_unstuck n w rounds v few run = grind arith

  -- a last stretch in which the end finds no room once at most
  behind_rounds : (w : Settling W M) (rounds : List (SettleRound R E)) (v : Settling W M) (last : List E) → Run (GoesOn K) w rounds v → sum_over blocked last ≤ 1
      → NeverThree stuck 0 (entries_of_rounds rounds ++ last)
  behind_rounds w rounds v last run once = grind (arith, rounds_unstuck, never_both, never_where, two_more)

  pub part_never : (start : W) (part : List E) (behind : W) → SettlePart K start part behind → NeverThree stuck 0 part
  part_never start part behind given = grind (arith, sum_once, sum_both, alone, append_assoc, behind_rounds)

  -- A FRONT
  module _ (F : Fronts W M E) (fronts : FrontsUnstick F blocked) where
    pub front_never : (start : W) (part : List E) (behind : W) → SettleFront K F start part behind → NeverThree stuck 0 part
    front_never start part behind given = grind (arith, behind_rounds, sum_once, sum_both)
