-- A front of a round over a list of lanes, and one of its ticks, where memory is wanted: each step that was made is in
-- it, and no other.
use Rattle.std.specs.Prelude.{◌≡◌, ◌⊎◌, ℕ, ◌+◌, ◌<◌, ◌≤◌, Bool, if◌then◌else◌, List, [], ◌∷◌, ◌++◌, length}
use Rattle.runs.specs.Run.{Run}
use Rattle.lane_kinds.specs.Fronts.{Fronts}
use Rattle.lane_kinds.specs.Lanes.{Entries, LaneKind, MakeTurns, StepOf, TicksIf, gets_tick, round_entries, turn_entries}

-- A FRONT OF A ROUND: turns of the first lanes, and the first steps of the next one's
pub record BeginsTurn {S V : Type 0} (K : LaneKind S V) (begun : List V) : Type 0 where
  pub more : List V
  pub of_turn : K.IsTurn (begun ++ more)

pub record RoundFront {S V E : Type 0} (K : LaneKind S V) (N : Entries V E) (lanes : List S) (part : List E) (behind : List S) : Type 0 where
  pub turns : List (List V)
  pub between : List S
  pub made : MakeTurns K 0 lanes turns between
  pub within : length turns ≤ length lanes
  pub begun : List V
  pub run : Run (StepOf K (length turns)) between begun behind
  pub next : (begun ≡ []) ⊎ ((length turns < length lanes) × BeginsTurn K begun)
  pub is : part ≡ round_entries K N 0 turns ++ turn_entries K N (length turns) begun

-- A FRONT OF THE TICKS: those of the lanes before some lane
pub record NoMore {S E : Type 0} (lanes : List S) (part : List E) (behind : List S) : Type 0 where
  pub is : part ≡ []
  pub lanes_stay : behind ≡ lanes

pub record TickMade {S V E : Type 0} (K : LaneKind S V) (N : Entries V E) (More : List E → List S → Type 0) (j : ℕ) (get : Bool) (s : S) (part : List E) (behind : List S) : Type 0 where
  pub after : S
  pub ticks : TicksIf K get s after
  pub later : List E
  pub others : List S
  pub more : More later others
  pub is : part ≡ (if get then N.of_lane j (K.tick s) ∷ [] else []) ++ later
  pub rest : behind ≡ after ∷ others

abbrev pub TickFront : {S V E : Type 0} → LaneKind S V → Entries V E → ℕ → List S → List Bool → List E → List S → Type 0
TickFront K N j (s ∷ lanes) (had ∷ marks) part behind =
    NoMore (s ∷ lanes) part behind ⊎ TickMade K N (TickFront K N (j + 1) lanes marks) j (gets_tick K s had) s part behind
TickFront K N j lanes marks part behind = NoMore lanes part behind

abbrev pub fronts_of : {S V E : Type 0} → LaneKind S V → Entries V E → Fronts (List S) (List Bool) E
fronts_of K N = record { OfRound = RoundFront K N; OfTicks = TickFront K N 0 }
