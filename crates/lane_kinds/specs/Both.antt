-- Lanes of two kinds beside each other: in each round those of the one and behind them those of the other, over one
-- journal. Lanes of three kinds are those of one beside those of two.
use Rattle.std.specs.Prelude.{◌≡◌, ◌⊎◌, ℕ, ◌+◌, ◌≤◌, ◌&&◌, ◌||◌, List, ◌++◌}
use Rattle.lane_kinds.specs.Fronts.{Fronts}
use Rattle.lane_kinds.specs.Rounds.{Rounds}

pub record Two (A B : Type 0) : Type 0 where
  pub first : A
  pub second : B

pub record BothMake {W V M N R Q E : Type 0} (K : Rounds W M R E) (L : Rounds V N Q E) (w : Two W V) (r : Two R Q) (v : Two W V) : Type 0 where
  pub of_first : K.Makes w.first r.first v.first
  pub of_second : L.Makes w.second r.second v.second

pub record BothTick {W V M N R Q E : Type 0} (K : Rounds W M R E) (L : Rounds V N Q E) (w : Two W V) (m : Two M N) (v : Two W V) : Type 0 where
  pub of_first : K.Ticks w.first m.first v.first
  pub of_second : L.Ticks w.second m.second v.second

abbrev pub both : {W V M N R Q E : Type 0} → Rounds W M R E → Rounds V N Q E → Rounds (Two W V) (Two M N) (Two R Q) E
both K L = record {
  Makes = BothMake K L;
  quiet = λ r. K.quiet r.first && L.quiet r.second;
  some_ticks = λ w m. K.some_ticks w.first m.first || L.some_ticks w.second m.second;
  Ticks = BothTick K L;
  marked = λ w m. record { first = K.marked w.first m.first; second = L.marked w.second m.second };
  unmarked = λ w. record { first = K.unmarked w.first; second = L.unmarked w.second };
  leaves = λ r. K.leaves r.first ++ L.leaves r.second;
  ticks_leave = λ w m. K.ticks_leave w.first m.first ++ L.ticks_leave w.second m.second;
  names = λ r w. K.names r.first w.first ++ L.names r.second w.second;
  settled = K.settled;
  pending = λ w. K.pending w.first + L.pending w.second;
}

-- ENTRIES OF ANOTHER KIND lead nowhere: those of its rounds and ticks, and the first of its names
pub record Skips {V N Q E W : Type 0} (L : Rounds V N Q E) (To : W → List E → W → Type 0) : Type 0 where
  pub round : (q : Q) (w : W) → To w (L.leaves q) w
  pub ticks : (v : V) (n : N) (w : W) → To w (L.ticks_leave v n) w
  pub names : (q : Q) (v : V) (part more : List E) → part ++ more ≡ L.names q v → (w : W) → To w part w

-- where entries lead the one, and where they lead the other
abbrev pub OnFirst : {W V E : Type 0} → (W → List E → W → Type 0) → Two W V → List E → Two W V → Type 0
OnFirst To w part v = To w.first part v.first

abbrev pub OnSecond : {W V E : Type 0} → (V → List E → V → Type 0) → Two W V → List E → Two W V → Type 0
OnSecond To w part v = To w.second part v.second

-- or entries of another kind count for nothing
pub record Ignores {V N Q E : Type 0} (L : Rounds V N Q E) (count : List E → ℕ) : Type 0 where
  pub round : (q : Q) → count (L.leaves q) ≤ 0
  pub ticks : (v : V) (n : N) → count (L.ticks_leave v n) ≤ 0
  pub names : (q : Q) (v : V) → count (L.names q v) ≤ 0

-- what stands of both, and what stands of each where it is by itself
pub record BothStand {W V M N : Type 0} (P : W → M → Type 0) (Q : V → N → Type 0) (w : Two W V) (m : Two M N) : Type 0 where
  pub of_first : P w.first m.first
  pub of_second : Q w.second m.second

pub record BothHold {W V : Type 0} (P : W → Type 0) (Q : V → Type 0) (w : Two W V) : Type 0 where
  pub of_first : P w.first
  pub of_second : Q w.second

-- AN ENTRY of their one journal does to each what it does there; what says nothing of a kind leaves its lanes as they
-- are
pub record BothStep {W V E : Type 0} (Step : W → E → W → Type 0) (Other : V → E → V → Type 0) (w : Two W V) (entry : E) (v : Two W V) : Type 0 where
  pub of_first : Step w.first entry v.first
  pub of_second : Other w.second entry v.second

-- A FRONT of both: one of the first kind's, and nothing of the second; or all of the first, and a front of the second's
pub record FrontOfFirst {W V E : Type 0} (Of : W → List E → W → Type 0) (w : Two W V) (part : List E) (v : Two W V) : Type 0 where
  pub front : Of w.first part v.first
  pub other : w.second ≡ v.second

pub record FrontBehind {W V E : Type 0} (All : W → List E → W → Type 0) (Of : V → List E → V → Type 0) (w : Two W V) (part : List E) (v : Two W V) : Type 0 where
  pub before : List E
  pub all : All w.first before v.first
  pub later : List E
  pub front : Of w.second later v.second
  pub is : part ≡ before ++ later

pub record AllRound {W M R E : Type 0} (K : Rounds W M R E) (w : W) (part : List E) (v : W) : Type 0 where
  pub steps : R
  pub made : K.Makes w steps v
  pub is : part ≡ K.leaves steps

pub record AllTicks {W M R E : Type 0} (K : Rounds W M R E) (marks : M) (w : W) (part : List E) (v : W) : Type 0 where
  pub ticks : K.Ticks w marks v
  pub is : part ≡ K.ticks_leave w marks

abbrev pub both_fronts : {W V M N R E : Type 0} → Rounds W M R E → Fronts W M E → Fronts V N E → Fronts (Two W V) (Two M N) E
both_fronts K F G = record {
  OfRound = λ w part v. FrontOfFirst F.OfRound w part v ⊎ FrontBehind (AllRound K) G.OfRound w part v;
  OfTicks = λ w m part v. FrontOfFirst (λ x. F.OfTicks x m.first) w part v ⊎ FrontBehind (AllTicks K m.first) (λ x. G.OfTicks x m.second) w part v;
}

-- and fronts of another kind lead nowhere, or count for nothing
pub record SkipsFronts {V N E W : Type 0} (G : Fronts V N E) (To : W → List E → W → Type 0) : Type 0 where
  pub round : (v : V) (part : List E) (u : V) → G.OfRound v part u → (w : W) → To w part w
  pub ticks : (v : V) (n : N) (part : List E) (u : V) → G.OfTicks v n part u → (w : W) → To w part w

pub record IgnoresFronts {V N E : Type 0} (G : Fronts V N E) (count : List E → ℕ) : Type 0 where
  pub round : (v : V) (part : List E) (u : V) → G.OfRound v part u → count part ≤ 0
  pub ticks : (v : V) (n : N) (part : List E) (u : V) → G.OfTicks v n part u → count part ≤ 0
