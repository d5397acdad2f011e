-- What was made so far, lane by lane, of a round over lanes of one kind, of the ticks after it and of the names; and
-- the marks of two kinds beside each other.
use Rattle.std.specs.Prelude.{◌≡◌, ℕ, ◌+◌, ◌≤◌, Bool, true, false, ◌&&◌, if◌then◌else◌, List, [], ◌∷◌, ◌++◌, length, map, take, drop}
use Rattle.lane_kinds.specs.Both.{Two}
use Rattle.lane_kinds.specs.Lanes.{Entries, LaneKind, MakeTurns, TickAll, all_calm, marked, round_entries, some_tick, tick_entries}
use Rattle.lane_kinds.specs.Rounds.{TickMarks}

-- whether all of these lanes were quiet
abbrev pub all_true : List Bool → Bool
all_true [] = true
all_true (mark ∷ marks) = mark && all_true marks

-- THE FIRST LANES, so many, made their turns, and the others none; the marks say which of them were quiet
pub record RoundUpTo {S V E : Type 0} (K : LaneKind S V) (N : Entries V E) (k : ℕ) (quiet : List Bool) (start : List S) (entries : List E) (now : List S) : Type 0 where
  pub steps : List (List V)
  pub made : MakeTurns K 0 start steps now
  pub many : length steps ≡ k
  pub within : k ≤ length start
  pub leaves : entries ≡ round_entries K N 0 steps
  pub marks : take k quiet ≡ map (all_calm K) steps

-- THE FIRST LANES, so many, had their ticks, by these marks
pub record TicksUpTo {S V E : Type 0} (K : LaneKind S V) (N : Entries V E) (k : ℕ) (m : TickMarks (List Bool)) (start : List S) (entries : List E) (now : List S) : Type 0 where
  pub ticks : TickAll K (take k start) (take k m.had) (take k now)
  pub others : drop k now ≡ drop k start
  pub leaves : entries ≡ tick_entries K N 0 (take k start) (take k m.had)
  pub any : m.some ≡ some_tick K (take k start) (take k m.had)
  pub marks : take k m.have ≡ marked K (take k start) (take k m.had)
  pub same_marks : drop k m.have ≡ drop k m.had

-- NAMES, by the marks of the last round: a lane is named where it wasn't quiet, or isn't finished though its server runs
abbrev pub name_of : {S V E : Type 0} → LaneKind S V → Entries V E → ℕ → Bool → S → List E
name_of K N k quiet lane = if quiet && (if K.waits_on lane then false else true) then [] else N.left_over k ∷ []

abbrev pub names : {S V E : Type 0} → LaneKind S V → Entries V E → ℕ → List Bool → List S → List E
names K N k (quiet ∷ marks) (lane ∷ lanes) = name_of K N k quiet lane ++ names K N (k + 1) marks lanes
names K N k _ _ = []

-- THE MARKS OF TWO KINDS beside each other; those of as many lanes; and whether all of them were quiet
abbrev pub Marks : Type 0
Marks = Two (List Bool) (List Bool)

abbrev pub first_marks : {S T : Type 0} → Two (List S) (List T) → Marks → Marks
first_marks w marks = record { first = take (length w.first) marks.first; second = take (length w.second) marks.second }

abbrev pub both_true : Marks → Bool
both_true marks = all_true marks.first && all_true marks.second
