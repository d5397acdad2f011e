-- A list of lanes of one kind, whose events may give others of the list events of their own: a round, in which each
-- lane in order makes its turn; and ticks.
use Rattle.std.specs.Prelude.{◌≡◌, ◌⊎◌, ℕ, ◌+◌, ◌*◌, ◌<◌, ◌≤◌, ◌==◌, Bool, true, false, ◌&&◌, ◌||◌, if◌then◌else◌, List, [], ◌∷◌, ◌++◌, length, ⊤}
use Rattle.runs.specs.Run.{Run}
use Rattle.lane_kinds.specs.Rounds.{Rounds}

pub record LaneKind (S V : Type 0) : Type 1 where
  pub Step : S → V → S → Type 0
  -- a step of an end, whatever comes of it; and a lane's turn, a step of each of its ends in order
  pub IsStep : V → Type 0
  pub IsTurn : List V → Type 0
  pub is_calm : V → Bool
  -- a settle leaves no entry of it
  pub is_silent : V → Bool
  pub tick : S → V
  -- what an event of another lane gives to the lane with this number
  pub gets : ℕ → V → List V
  -- what an event says of the lanes as it comes, of which the one with this number makes it
  pub Sees : List S → ℕ → V → Type 0
  -- it isn't finished, though its server runs
  pub waits_on : S → Bool
  pub pending : S → ℕ

-- its entries
pub record Entries (V E : Type 0) : Type 0 where
  pub of_lane : ℕ → V → E
  pub left_over : ℕ → E
  pub settled : E

-- AN EVENT of the lane with number k, of lanes from number j on: what happens to each of them
abbrev pub own_or : {V : Type 0} → Bool → V → List V → List V
own_or true event gifts = event ∷ []
own_or false event gifts = gifts

abbrev pub AllStep : {S V : Type 0} → LaneKind S V → ℕ → List S → ℕ → V → List S → Type 0
AllStep K j [] k event [] = ⊤
AllStep K j (s ∷ lanes) k event (t ∷ behind) = Run K.Step s (own_or (j == k) event (K.gets j event)) t × AllStep K (j + 1) lanes k event behind
AllStep K j _ k event _ = ⊥

pub record StepOf {S V : Type 0} (K : LaneKind S V) (k : ℕ) (lanes : List S) (event : V) (behind : List S) : Type 0 where
  pub sees : K.Sees lanes k event
  pub step : AllStep K 0 lanes k event behind

-- and the lane is one of them
pub record EntryOf {S V : Type 0} (K : LaneKind S V) (k : ℕ) (lanes : List S) (event : V) (behind : List S) : Type 0 where
  pub within : k < length lanes
  pub step : StepOf K k lanes event behind

-- A TURN of a lane; and turns, from the lane with this number on
pub record MakesTurn {S V : Type 0} (K : LaneKind S V) (k : ℕ) (lanes : List S) (events : List V) (behind : List S) : Type 0 where
  pub of_turn : K.IsTurn events
  pub run : Run (StepOf K k) lanes events behind

abbrev pub MakeTurns : {S V : Type 0} → LaneKind S V → ℕ → List S → List (List V) → List S → Type 0
MakeTurns K k lanes [] behind = lanes ≡ behind
MakeTurns {S} K k lanes (r ∷ turns) behind = (m : List S) × MakesTurn K k lanes r m × MakeTurns K (k + 1) m turns behind

-- A ROUND
pub record MakeRound {S V : Type 0} (K : LaneKind S V) (lanes : List S) (turns : List (List V)) (behind : List S) : Type 0 where
  pub turns_made : MakeTurns K 0 lanes turns behind
  pub many : length turns ≡ length lanes

abbrev pub all_calm : {S V : Type 0} → LaneKind S V → List V → Bool
all_calm K [] = true
all_calm K (event ∷ events) = K.is_calm event && all_calm K events

abbrev pub are_still : {S V : Type 0} → LaneKind S V → List (List V) → Bool
are_still K [] = true
are_still K (r ∷ turns) = all_calm K r && are_still K turns

-- TICKS
abbrev pub gets_tick : {S V : Type 0} → LaneKind S V → S → Bool → Bool
gets_tick K s had = if had then false else K.waits_on s

abbrev pub some_tick : {S V : Type 0} → LaneKind S V → List S → List Bool → Bool
some_tick K (s ∷ lanes) (had ∷ marks) = gets_tick K s had || some_tick K lanes marks
some_tick K _ _ = false

abbrev pub TicksIf : {S V : Type 0} → LaneKind S V → Bool → S → S → Type 0
TicksIf K true s t = K.Step s (K.tick s) t
TicksIf K false s t = t ≡ s

abbrev pub TickAll : {S V : Type 0} → LaneKind S V → List S → List Bool → List S → Type 0
TickAll K [] [] [] = ⊤
TickAll K (s ∷ lanes) (had ∷ marks) (t ∷ behind) = TicksIf K (gets_tick K s had) s t × TickAll K lanes marks behind
TickAll K _ _ _ = ⊥

abbrev pub marked : {S V : Type 0} → LaneKind S V → List S → List Bool → List Bool
marked K (s ∷ lanes) (had ∷ marks) = (had || gets_tick K s had) ∷ marked K lanes marks
marked K _ _ = []

abbrev pub unmarked : {S : Type 0} → List S → List Bool
unmarked [] = []
unmarked (s ∷ lanes) = false ∷ unmarked lanes

-- ENTRIES, from the lane with this number on
abbrev pub turn_entries : {S V E : Type 0} → LaneKind S V → Entries V E → ℕ → List V → List E
turn_entries K N k [] = []
turn_entries K N k (event ∷ events) = (if K.is_silent event then [] else N.of_lane k event ∷ []) ++ turn_entries K N k events

abbrev pub round_entries : {S V E : Type 0} → LaneKind S V → Entries V E → ℕ → List (List V) → List E
round_entries K N k [] = []
round_entries K N k (r ∷ turns) = turn_entries K N k r ++ round_entries K N (k + 1) turns

abbrev pub tick_entries : {S V E : Type 0} → LaneKind S V → Entries V E → ℕ → List S → List Bool → List E
tick_entries K N k (s ∷ lanes) (had ∷ marks) = (if gets_tick K s had then N.of_lane k (K.tick s) ∷ [] else []) ++ tick_entries K N (k + 1) lanes marks
tick_entries K N k _ _ = []

abbrev pub left_names : {S V E : Type 0} → LaneKind S V → Entries V E → ℕ → List (List V) → List S → List E
left_names K N k (r ∷ turns) (s ∷ lanes) = (if all_calm K r && (if K.waits_on s then false else true) then [] else N.left_over k ∷ []) ++ left_names K N (k + 1) turns lanes
left_names K N k _ _ = []

-- SUMS, and a condition on each
abbrev pub sum_of : {S : Type 0} → (S → ℕ) → List S → ℕ
sum_of count [] = 0
sum_of count (s ∷ lanes) = count s + sum_of count lanes

abbrev pub EachOf : {S : Type 0} → (S → Type 0) → List S → Type 0
EachOf P [] = ⊤
EachOf P (s ∷ lanes) = P s × EachOf P lanes

-- so few, each of which is clean; and at most eight
pub record AreCleanWhere {S : Type 0} (Few : ℕ → Type 0) (Clean : S → Type 0) (lanes : List S) : Type 0 where
  pub few : Few (length lanes)
  pub clean : EachOf Clean lanes

abbrev pub AreClean : {S : Type 0} → (S → Type 0) → List S → Type 0
AreClean Clean = AreCleanWhere (λ n. n ≤ 8) Clean

-- THE LANES, as a settle sees them
abbrev pub lanes_of : {S V E : Type 0} → LaneKind S V → Entries V E → Rounds (List S) (List Bool) (List (List V)) E
lanes_of K N = record {
  Makes = MakeRound K;
  quiet = are_still K;
  some_ticks = some_tick K;
  Ticks = TickAll K;
  marked = marked K;
  unmarked = unmarked;
  leaves = round_entries K N 0;
  ticks_leave = tick_entries K N 0;
  names = left_names K N 0;
  settled = N.settled;
  pending = sum_of K.pending;
}

-- A LANE makes its turn alone, and so does each of them
pub record OwnTurn {S V : Type 0} (K : LaneKind S V) (s : S) (events : List V) (t : S) : Type 0 where
  pub of_turn : K.IsTurn events
  pub run : Run K.Step s events t

abbrev pub OwnTurns : {S V : Type 0} → LaneKind S V → List S → List (List V) → List S → Type 0
OwnTurns K [] [] [] = ⊤
OwnTurns K (s ∷ lanes) (r ∷ turns) (t ∷ behind) = OwnTurn K s r t × OwnTurns K lanes turns behind
OwnTurns K _ _ _ = ⊥

-- no event gives anything to another lane, nor says anything of it
pub record GivesNothing {S V : Type 0} (K : LaneKind S V) : Type 0 where
  pub gives : (k : ℕ) (event : V) → K.gets k event ≡ []
  pub sees : (lanes : List S) (k : ℕ) (event : V) → K.Sees lanes k event

-- it is calm
pub record CalmTurn {S V : Type 0} (K : LaneKind S V) (s : S) (events : List V) (t : S) : Type 0 where
  pub of_turn : K.IsTurn events
  pub run : Run K.Step s events t
  pub calm : all_calm K events ≡ true

-- and so each of them
abbrev pub Calmly : {S V : Type 0} → LaneKind S V → List S → List (List V) → List S → Type 0
Calmly K [] [] [] = ⊤
Calmly K (s ∷ lanes) (r ∷ turns) (t ∷ behind) = CalmTurn K s r t × Calmly K lanes turns behind
Calmly K _ _ _ = ⊥

abbrev pub EachStep : {S V : Type 0} → LaneKind S V → List V → Type 0
EachStep K [] = ⊤
EachStep K (event ∷ events) = K.IsStep event × EachStep K events

-- THE LAWS OF A LANE, from which that of the count follows: a step of a clean lane lowers what remains on it by more
-- than it may raise on seven others, or it is calm and gives nothing; and so does the tick after a calm turn
pub record LaneFalls {S V : Type 0} (K : LaneKind S V) (Clean : S → Type 0) (remaining : S → ℕ) (raises : V → ℕ) : Type 0 where
  pub turn_steps : (events : List V) → K.IsTurn events → EachStep K events
  pub clean : (s : S) (event : V) (t : S) → Clean s → K.Step s event t → K.IsStep event → Clean t
  pub loud : (s : S) (event : V) (t : S) → Clean s → K.Step s event t → K.IsStep event → K.is_calm event ≡ false → remaining t + 7 * raises event < remaining s
  pub calm : (s : S) (event : V) (t : S) → Clean s → K.Step s event t → K.IsStep event → K.is_calm event ≡ true → remaining t ≤ remaining s
  pub calm_gives : (k : ℕ) (event : V) → K.is_calm event ≡ true → K.gets k event ≡ []
  pub given_clean : (k : ℕ) (event : V) (s t : S) → Clean s → Run K.Step s (K.gets k event) t → Clean t
  pub given : (k : ℕ) (event : V) (s t : S) → Clean s → Run K.Step s (K.gets k event) t → remaining t ≤ remaining s + raises event
  pub tick_clean : (s t : S) → Clean s → K.Step s (K.tick s) t → Clean t
  pub tick_falls : (s : S) (events : List V) (t u : S) → Clean s → CalmTurn K s events t → K.waits_on t ≡ true → K.Step t (K.tick t) u → remaining u < remaining t

-- WHAT STANDS BEHIND A SETTLE: a lane that nobody forged and that lost nothing is finished by a calm turn; and a tick
-- leaves nothing lost. Forging isn't undone.
pub record ComesToRest {S V : Type 0} (K : LaneKind S V) (Reached Unforged Lossless : S → Type 0) : Type 0 where
  pub turn_steps : (events : List V) → K.IsTurn events → EachStep K events
  pub reached : (s : S) (event : V) (t : S) → Reached s → K.Step s event t → Reached t
  pub was_unforged : (s : S) (event : V) (t : S) → K.Step s event t → K.IsStep event → Unforged t → Unforged s
  pub lossless : (s : S) (event : V) (t : S) → K.Step s event t → K.IsStep event → Lossless s → Lossless t
  pub given_lossless : (k : ℕ) (event : V) (s t : S) → Run K.Step s (K.gets k event) t → Lossless s → Lossless t
  pub calm_gives : (k : ℕ) (event : V) → K.is_calm event ≡ true → K.gets k event ≡ []
  pub tick_lossless : (s : S) (events : List V) (t u : S) → Reached s → CalmTurn K s events t → K.Step t (K.tick t) u → Lossless u
  pub finishes : (s : S) (events : List V) (t : S) → Reached s → Unforged s → Lossless s → CalmTurn K s events t → K.waits_on t ≡ false

abbrev pub EachMarked : {S : Type 0} → (S → Bool → Type 0) → List S → List Bool → Type 0
EachMarked P [] [] = ⊤
EachMarked P (s ∷ lanes) (had ∷ marks) = P s had × EachMarked P lanes marks
EachMarked P _ _ = ⊥

-- a condition on each with its number, from this one on
abbrev pub EachAt : {S : Type 0} → (ℕ → S → Type 0) → ℕ → List S → Type 0
EachAt P j [] = ⊤
EachAt P j (s ∷ lanes) = P j s × EachAt P (j + 1) lanes

-- it is finished, or had its tick; and where nobody forged it, it is finished, also beside lanes that somebody forged
pub record IsLaneAtRest {S V : Type 0} (K : LaneKind S V) (Unforged : S → Type 0) (s : S) (had : Bool) : Type 0 where
  pub ticked : (K.waits_on s ≡ false) ⊎ (had ≡ true)
  pub finished : Unforged s → K.waits_on s ≡ false

-- WHAT A JOURNAL SAYS HAPPENED to each lane, by what it reads in an entry: the lane's own events, and what those of
-- the others gave it
pub record Reads {S V E : Type 0} (K : LaneKind S V) (N : Entries V E) (said : ℕ → E → List V) : Type 0 where
  pub of_lane : (j k : ℕ) (event : V) → said j (N.of_lane k event) ≡ own_or (j == k) event (K.gets j event)
  pub of_left : (j k : ℕ) → said j (N.left_over k) ≡ []
  pub of_answer : (j : ℕ) → said j N.settled ≡ []

abbrev pub happened : {V E : Type 0} → (ℕ → E → List V) → ℕ → List E → List V
happened said j [] = []
happened said j (x ∷ part) = said j x ++ happened said j part

-- each lane, from this number on, was run by that
abbrev pub AllMove : {S V E : Type 0} → (S → V → S → Type 0) → (ℕ → E → List V) → ℕ → List S → List E → List S → Type 0
AllMove Step said j [] part [] = ⊤
AllMove Step said j (s ∷ lanes) part (t ∷ behind) = Run Step s (happened said j part) t × AllMove Step said (j + 1) lanes part behind
AllMove Step said j _ part _ = ⊥

-- what leaves no entry does nothing, and a tick gives nothing
pub record IsSilent {S V : Type 0} (K : LaneKind S V) : Type 0 where
  pub same : (s : S) (event : V) (t : S) → K.Step s event t → K.is_silent event ≡ true → s ≡ t
  pub gives : (k : ℕ) (event : V) → K.is_silent event ≡ true → K.gets k event ≡ []
  pub tick_gives : (k : ℕ) (s : S) → K.gets k (K.tick s) ≡ []
  pub tick_loud : (s : S) → K.is_silent (K.tick s) ≡ false
