-- The rounds of a settle that were made and go on, so many, with what they left in the journal, over lanes of any kinds;
-- and what is known of the last of them.
use Rattle.std.specs.Prelude.{◌≡◌, ℕ, List, [], ◌∷◌, ◌++◌, length}
use Rattle.runs.specs.Run.{Run}
use Rattle.lane_kinds.specs.Both.{Two}
use Rattle.lane_kinds.specs.Rounds.{Rounds, TickMarks}
use Rattle.lane_kinds.specs.Settles.{GoesOn, SettleRound, begin, entries_of_rounds}

pub record GoneOn {W M R E : Type 0} (K : Rounds W M R E) (count : ℕ) (marks : M) (Last : R → Type 0) (start : W) (entries : List E) (now : W) : Type 0 where
  pub rounds : List (SettleRound R E)
  pub run : Run (GoesOn K) (begin K start) rounds (record { lanes = now; marks = marks })
  pub many : length rounds ≡ count
  pub last : (before : List (SettleRound R E)) (last : SettleRound R E) → rounds ≡ before ++ last ∷ [] → Last last.steps
  pub leaves : entries ≡ entries_of_rounds rounds

-- a round over them was made, and left this
pub record RoundMade {W M R E : Type 0} (K : Rounds W M R E) (steps : R) (w : W) (part : List E) (v : W) : Type 0 where
  pub made : K.Makes w steps v
  pub leaves : part ≡ K.leaves steps

-- BY MARKS: what these say of a round, namely which lanes were quiet in it
pub record RoundSaid {W M R E Q : Type 0} (K : Rounds W M R E) (said : R → Q) (quiet : Q) (w : W) (part : List E) (v : W) : Type 0 where
  pub steps : R
  pub round : RoundMade K steps w part v
  pub marks : quiet ≡ said steps

-- the ticks behind a round, by these marks
pub record TicksMade {W M R E : Type 0} (K : Rounds W M R E) (m : TickMarks M) (w : W) (part : List E) (v : W) : Type 0 where
  pub ticks : K.Ticks w m.had v
  pub leaves : part ≡ K.ticks_leave w m.had
  pub any : m.some ≡ K.some_ticks w m.had
  pub marks : m.have ≡ K.marked w m.had

-- and of the last of the rounds that go on
abbrev pub GoneSaid : {W M R E Q : Type 0} → Rounds W M R E → (R → Q) → ℕ → M → Q → W → List E → W → Type 0
GoneSaid K said count had quiet start entries now = GoneOn K count had (λ steps. quiet ≡ said steps) start entries now

-- of two kinds beside each other
abbrev pub both_said : {R Q P O : Type 0} → (R → P) → (Q → O) → Two R Q → Two P O
both_said one two steps = record { first = one steps.first; second = two steps.second }
