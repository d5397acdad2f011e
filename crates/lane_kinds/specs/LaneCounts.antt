-- Laws of one lane's entries, from which the counts over the part of a settle of a list follow.
use Rattle.std.specs.Prelude.{◌≡◌, ◌⊎◌, ℕ, ◌+◌, ◌≤◌, ◌==◌, Bool, true, false, ◌&&◌, if◌then◌else◌, List, [], ◌∷◌}
use Rattle.lane_kinds.specs.Lanes.{EachStep, Entries, LaneKind, turn_entries}
use Rattle.lane_kinds.specs.Stuck.{sum_over}

abbrev pub once : Bool → ℕ
once c = if c then 1 else 0

-- THE MARK of the lane with the number k, among those from number j on
abbrev pub mark_at : ℕ → ℕ → List Bool → ℕ
mark_at k j [] = 0
mark_at k j (had ∷ marks) = once ((j == k) && had) + mark_at k (j + 1) marks

-- a step that isn't calm leaves an entry that counts, and so does a tick
pub record LaneMoves {S V E : Type 0} (K : LaneKind S V) (N : Entries V E) (moves : E → ℕ) : Type 0 where
  pub silent_calm : (event : V) → K.is_silent event ≡ true → K.is_calm event ≡ true
  pub loud : (k : ℕ) (event : V) → K.is_calm event ≡ false → 1 ≤ moves (N.of_lane k event)
  pub tick : (k : ℕ) (s : S) → 1 ≤ moves (N.of_lane k (K.tick s))

-- ticks of the lane with the number k: no step is one
pub record LaneTicks {S V E : Type 0} (K : LaneKind S V) (N : Entries V E) (ticks : ℕ → E → ℕ) : Type 0 where
  pub turn_steps : (events : List V) → K.IsTurn events → EachStep K events
  pub step : (k j : ℕ) (event : V) → K.IsStep event → ticks k (N.of_lane j event) ≡ 0
  pub tick : (k j : ℕ) (s : S) → ticks k (N.of_lane j (K.tick s)) ≡ once (j == k)
  pub left : (k j : ℕ) → ticks k (N.left_over j) ≡ 0
  pub answer : (k : ℕ) → ticks k N.settled ≡ 0

-- an end of the lane with the number k finds no room once at most in its turn, and something else comes before it
-- does again
pub record LaneUnsticks {S V E : Type 0} (K : LaneKind S V) (N : Entries V E) (k : ℕ) (stuck : ℕ → E → ℕ) (blocked moves : E → ℕ) : Type 0 where
  pub moving : LaneMoves K N moves
  pub most : (n : ℕ) (x : E) → stuck n x ≤ n + blocked x
  pub or_none : (x : E) → (moves x ≡ 0) ⊎ ((n : ℕ) → stuck n x ≡ 0)
  pub turn : (j : ℕ) (events : List V) → K.IsTurn events → sum_over blocked (turn_entries K N j events) ≤ once (j == k)
  pub tick : (j : ℕ) (s : S) → blocked (N.of_lane j (K.tick s)) ≡ 0
  pub left : (j : ℕ) → blocked (N.left_over j) ≡ 0
  pub answer : blocked N.settled ≡ 0

-- a tick leaves its lane waiting
abbrev pub TickWaits : {S V : Type 0} → LaneKind S V → (S → Type 0) → Type 0
TickWaits {S} K Reached = (s t : S) → Reached s → K.waits_on s ≡ true → K.Step s (K.tick s) t → K.waits_on t ≡ true
