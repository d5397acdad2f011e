-- Laws of rounds and ticks, from which those of a settle follow.
use Rattle.std.specs.Prelude.{◌≡◌, ◌⊎◌, ℕ, ◌+◌, ◌≤◌, ◌<◌, Bool, true, false, List, [], ◌∷◌, ◌++◌, length}
use Rattle.lane_kinds.specs.Fronts.{Fronts}
use Rattle.lane_kinds.specs.Rounds.{Rounds}
use Rattle.lane_kinds.specs.Stuck.{sum_over}

-- a number falls, or this is so and it doesn't rise
abbrev pub Lowers : Bool → ℕ → ℕ → Type 0
Lowers b n m = ((b ≡ true) × (m ≤ n)) ⊎ (m < n)

-- it falls where this is so, and never rises
abbrev pub LowersUnless : Bool → ℕ → ℕ → Type 0
LowersUnless b n m = ((b ≡ false) × (m ≤ n)) ⊎ (m < n)

-- WHAT STANDS of the lanes and their marks stays through rounds, and through the ticks after a round in which all
-- were quiet
pub record KeepsStanding {W M R E : Type 0} (K : Rounds W M R E) (Stands : W → M → Type 0) : Type 0 where
  pub round : (w : W) (m : M) (r : R) (v : W) → Stands w m → K.Makes w r v → Stands v m
  pub ticks : (w : W) (m : M) (r : R) (v u : W) → Stands w m → K.Makes w r v → K.quiet r ≡ true → K.Ticks v m u → Stands u (K.marked v m)

-- WHAT REMAINS of clean lanes falls by a round, or all are quiet in it; and then it falls by the ticks, or none gets
-- one
pub record Falls {W M R E : Type 0} (K : Rounds W M R E) (Clean : W → Type 0) (remaining : W → ℕ) : Type 0 where
  pub keeps : KeepsStanding K (λ w m. Clean w)
  pub round : (w : W) (r : R) (v : W) → Clean w → K.Makes w r v → Lowers (K.quiet r) (remaining w) (remaining v)
  pub ticks : (w : W) (m : M) (r : R) (v u : W) → Clean w → K.Makes w r v → K.quiet r ≡ true → K.Ticks v m u → LowersUnless (K.some_ticks v m) (remaining v) (remaining u)

-- WHAT ENTRIES LEAD TO: those of a round to where it led, and those of ticks likewise
pub record Leads {W M R E : Type 0} (K : Rounds W M R E) (To : W → List E → W → Type 0) : Type 0 where
  pub none : (w : W) → To w [] w
  pub both : (w m v : W) (one two : List E) → To w one m → To m two v → To w (one ++ two) v
  pub round : (w : W) (r : R) (v : W) → K.Makes w r v → To w (K.leaves r) v
  pub ticks : (w : W) (m : M) (v : W) → K.Ticks w m v → To w (K.ticks_leave w m) v

-- the same of lanes of which something stands; and where all were quiet, those of the round with the ticks behind it
pub record LeadsWhere {W M R E : Type 0} (K : Rounds W M R E) (Stands : W → M → Type 0) (To : W → List E → W → Type 0) : Type 0 where
  pub keeps : KeepsStanding K Stands
  pub none : (w : W) → To w [] w
  pub both : (w m v : W) (one two : List E) → To w one m → To m two v → To w (one ++ two) v
  pub round : (w : W) (m : M) (r : R) (v : W) → Stands w m → K.Makes w r v → To w (K.leaves r) v
  pub ticks : (w : W) (m : M) (r : R) (v u : W) → Stands w m → K.Makes w r v → K.quiet r ≡ true → K.Ticks v m u → To w (K.leaves r ++ K.ticks_leave v m) u

-- and the answer leads nowhere, nor do names, or the first of them
pub record AnswersLead {W M R E : Type 0} (K : Rounds W M R E) (To : W → List E → W → Type 0) : Type 0 where
  pub answer : (w : W) → To w (K.settled ∷ []) w
  pub names : (r : R) (w : W) (part more : List E) → part ++ more ≡ K.names r w → To w part w

pub record FrontsLead {W M R E : Type 0} (K : Rounds W M R E) (F : Fronts W M E) (To : W → List E → W → Type 0) : Type 0 where
  pub round : (w : W) (part : List E) (v : W) → F.OfRound w part v → To w part v
  pub ticks : (w : W) (m : M) (part : List E) (v : W) → F.OfTicks w m part v → To w part v

pub record FrontsLeadWhere {W M R E : Type 0} (K : Rounds W M R E) (F : Fronts W M E) (Stands : W → M → Type 0) (To : W → List E → W → Type 0) : Type 0 where
  pub round : (w : W) (m : M) (part : List E) (v : W) → Stands w m → F.OfRound w part v → To w part v
  pub ticks : (w : W) (m : M) (r : R) (v : W) (part : List E) (u : W) → Stands w m → K.Makes w r v → K.quiet r ≡ true → F.OfTicks v m part u → To w (K.leaves r ++ part) u

-- A COUNT over entries: rounds, names and the answer add nothing to it, and ticks as much as to the marks, which are
-- one at most
pub record CountsRounds {W M R E : Type 0} (K : Rounds W M R E) (count : List E → ℕ) (mark : M → ℕ) : Type 0 where
  pub both : (one two : List E) → count (one ++ two) ≡ count one + count two
  pub round : (w : W) (r : R) (v : W) → K.Makes w r v → count (K.leaves r) ≤ 0
  pub ticks : (w : W) (m : M) (v : W) → K.Ticks w m v → count (K.ticks_leave w m) + mark m ≡ mark (K.marked w m)
  pub unmarked : (w : W) → mark (K.unmarked w) ≡ 0
  pub most : (m : M) → mark m ≤ 1
  pub answer : count (K.settled ∷ []) ≡ 0
  pub names : (r : R) (w : W) → count (K.names r w) ≤ 0

pub record FrontsCount {W M E : Type 0} (F : Fronts W M E) (count : List E → ℕ) (mark : M → ℕ) : Type 0 where
  pub round : (w : W) (part : List E) (v : W) → F.OfRound w part v → count part ≤ 0
  pub ticks : (w : W) (m : M) (part : List E) (v : W) → F.OfTicks w m part v → count part + mark m ≤ 1

-- EACH ROUND THAT GOES ON leaves something that counts: by its turns where not all lanes were quiet, else by a tick
pub record Moves {W M R E : Type 0} (K : Rounds W M R E) (moves : List E → ℕ) : Type 0 where
  pub both : (one two : List E) → moves (one ++ two) ≡ moves one + moves two
  pub round : (r : R) → K.quiet r ≡ false → 1 ≤ moves (K.leaves r)
  pub ticks : (w : W) (m : M) → K.some_ticks w m ≡ true → 1 ≤ moves (K.ticks_leave w m)

-- AN END THAT FINDS NO ROOM: it does so once in a round, and something else comes before it does again
pub record Unsticks {W M R E : Type 0} (K : Rounds W M R E) (stuck : ℕ → E → ℕ) (blocked moves : E → ℕ) : Type 0 where
  pub most : (n : ℕ) (x : E) → stuck n x ≤ n + blocked x
  pub or_none : (x : E) → (moves x ≡ 0) ⊎ ((n : ℕ) → stuck n x ≡ 0)
  pub moving : Moves K (sum_over moves)
  pub round : (w : W) (r : R) (v : W) → K.Makes w r v → sum_over blocked (K.leaves r) ≤ 1
  pub ticks : (w : W) (m : M) → sum_over blocked (K.ticks_leave w m) ≤ 0
  pub names : (r : R) (w : W) → sum_over blocked (K.names r w) ≤ 0
  pub answer : blocked K.settled ≡ 0

pub record FrontsUnstick {W M E : Type 0} (F : Fronts W M E) (blocked : E → ℕ) : Type 0 where
  pub round : (w : W) (part : List E) (v : W) → F.OfRound w part v → sum_over blocked part ≤ 1
  pub ticks : (w : W) (m : M) (part : List E) (v : W) → F.OfTicks w m part v → sum_over blocked part ≤ 0

-- AND SOME LANE IS NAMED behind such a round
pub record Names {W M R E : Type 0} (K : Rounds W M R E) (Stands : W → M → Type 0) : Type 0 where
  pub loud : (w : W) (r : R) (v : W) → K.Makes w r v → K.quiet r ≡ false → 1 ≤ length (K.names r v)
  pub ticked : (w : W) (m : M) (r : R) (v u : W) → Stands w m → K.Makes w r v → K.Ticks v m u → K.some_ticks v m ≡ true → 1 ≤ length (K.names r u)
