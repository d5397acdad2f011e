-- A settle: rounds, until one in which all lanes are quiet and after which none gets a tick; and the part of the
-- journal that it gives.
use Rattle.std.specs.Prelude.{◌≡◌, ◌⊎◌, ℕ, ◌+◌, ◌*◌, ◌<◌, Bool, true, false, List, [], ◌∷◌, ◌++◌, length}
use Rattle.runs.specs.Run.{Run}
use Rattle.lane_kinds.specs.Rounds.{Rounds}

-- THE LANES in a settle, and which of them had a tick in it
pub record Settling (W M : Type 0) : Type 0 where
  pub lanes : W
  pub marks : M

abbrev pub begin : {W M R E : Type 0} → Rounds W M R E → W → Settling W M
begin K lanes = record { lanes = lanes; marks = K.unmarked lanes }

-- a round with the ticks after it, and what they leave in the journal
pub record SettleRound (R E : Type 0) : Type 0 where
  pub steps : R
  pub entries : List E

-- after a round in which not all lanes were quiet nothing is done; after another the ticks
abbrev pub TicksBehind : {W M R E : Type 0} → Rounds W M R E → Bool → Settling W M → R → W → List E → Settling W M → Type 0
TicksBehind K false w steps between entries v =
    (v ≡ record { lanes = between; marks = w.marks }) × (entries ≡ K.leaves steps)
TicksBehind K true w steps between entries v =
    (K.some_ticks between w.marks ≡ true) × K.Ticks between w.marks v.lanes × (v.marks ≡ K.marked between w.marks)
    × (entries ≡ K.leaves steps ++ K.ticks_leave between w.marks)

-- A ROUND THAT GOES ON: not all lanes are quiet in it, or after it some get a tick
pub record GoesOn {W M R E : Type 0} (K : Rounds W M R E) (w : Settling W M) (round : SettleRound R E) (v : Settling W M) : Type 0 where
  pub between : W
  pub made : K.Makes w.lanes round.steps between
  pub behind : TicksBehind K (K.quiet round.steps) w round.steps between round.entries v

-- THE LAST ROUND: all lanes are quiet in it, and after it none gets a tick
pub record IsLastRound {W M R E : Type 0} (K : Rounds W M R E) (w : Settling W M) (steps : R) (behind : W) : Type 0 where
  pub made : K.Makes w.lanes steps behind
  pub quiet : K.quiet steps ≡ true
  pub no_tick : K.some_ticks behind w.marks ≡ false

abbrev pub entries_of_rounds : {R E : Type 0} → List (SettleRound R E) → List E
entries_of_rounds [] = []
entries_of_rounds (round ∷ rounds) = round.entries ++ entries_of_rounds rounds

-- so many rounds may be made, by what is asked of the lanes as it begins
abbrev pub most_rounds : {W M R E : Type 0} → Rounds W M R E → W → ℕ
most_rounds K lanes = 4096 + 64 * K.pending lanes

-- IT SETTLES: rounds that go on, fewer than the most, and a last one
pub record Settles {W M R E : Type 0} (K : Rounds W M R E) (start : W) (part : List E) (behind : W) : Type 0 where
  pub rounds : List (SettleRound R E)
  pub now : Settling W M
  pub run : Run (GoesOn K) (begin K start) rounds now
  pub few : length rounds < most_rounds K start
  pub steps : R
  pub last : IsLastRound K now steps behind
  pub is : part ≡ entries_of_rounds rounds ++ K.leaves steps ++ K.settled ∷ []

-- OR NOT: the most rounds were made and all went on; those of the lanes that are left over are named
pub record RunsOut {W M R E : Type 0} (K : Rounds W M R E) (start : W) (part : List E) (behind : W) : Type 0 where
  pub rounds : List (SettleRound R E)
  pub last : SettleRound R E
  pub now : Settling W M
  pub run : Run (GoesOn K) (begin K start) (rounds ++ last ∷ []) now
  pub most : length (rounds ++ last ∷ []) ≡ most_rounds K start
  pub lanes : behind ≡ now.lanes
  pub is : part ≡ entries_of_rounds (rounds ++ last ∷ []) ++ K.names last.steps behind

abbrev pub SettlePart : {W M R E : Type 0} → Rounds W M R E → W → List E → W → Type 0
SettlePart K start part behind = Settles K start part behind ⊎ RunsOut K start part behind

-- WHERE IT ENDS SETTLED: the lanes with their marks before its last round, with what stands of them, and that round
pub record EndsWith {W M R E : Type 0} (K : Rounds W M R E) (Stands : W → M → Type 0) (behind : W) (marks : M) : Type 0 where
  pub before : W
  pub stands : Stands before marks
  pub steps : R
  pub made : K.Makes before steps behind
  pub quiet : K.quiet steps ≡ true
  pub no_tick : K.some_ticks behind marks ≡ false
