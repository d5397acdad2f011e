-- A front of a settle's part, where memory is wanted: each step that was made is in it, and no other.
use Rattle.std.specs.Prelude.{◌≡◌, ◌⊎◌, ◌<◌, true, List, [], ◌∷◌, ◌++◌, length}
use Rattle.runs.specs.Run.{Run}
use Rattle.lane_kinds.specs.Rounds.{Rounds}
use Rattle.lane_kinds.specs.Settles.{GoesOn, SettleRound, Settling, begin, entries_of_rounds, most_rounds}

-- what a front of a round is, and one of ticks
pub record Fronts (W M E : Type 0) : Type 1 where
  pub OfRound : W → List E → W → Type 0
  pub OfTicks : W → M → List E → W → Type 0

-- after a round in which all lanes were quiet; where none gets a tick, only the answer is wanting
pub record QuietFront {W M R E : Type 0} (K : Rounds W M R E) (F : Fronts W M E) (now : Settling W M) (part : List E) (behind : W) : Type 0 where
  pub steps : R
  pub between : W
  pub made : K.Makes now.lanes steps between
  pub quiet : K.quiet steps ≡ true
  pub later : List E
  pub ticks : F.OfTicks between now.marks later behind
  pub is : part ≡ K.leaves steps ++ later

-- where the rounds ran out, some of the lanes that are left over are named
pub record NamesFront {W M R E : Type 0} (K : Rounds W M R E) (rounds : List (SettleRound R E)) (now : Settling W M) (part : List E) (behind : W) : Type 0 where
  pub before : List (SettleRound R E)
  pub last : SettleRound R E
  pub is_last : rounds ≡ before ++ last ∷ []
  pub unnamed : List E
  pub is : part ++ unnamed ≡ K.names last.steps now.lanes
  pub lanes : behind ≡ now.lanes

-- A FRONT OF THE PART
pub record SettleFront {W M R E : Type 0} (K : Rounds W M R E) (F : Fronts W M E) (start : W) (part : List E) (behind : W) : Type 0 where
  pub rounds : List (SettleRound R E)
  pub now : Settling W M
  pub run : Run (GoesOn K) (begin K start) rounds now
  pub later : List E
  pub front :
      ((length rounds < most_rounds K start) × (F.OfRound now.lanes later behind ⊎ QuietFront K F now later behind))
      ⊎ ((length rounds ≡ most_rounds K start) × NamesFront K rounds now later behind)
  pub is : part ≡ entries_of_rounds rounds ++ later
