-- What was made of a round, of ticks and of names by each of two kinds of lanes is what both made beside each other.
use Rattle.std.proofs.Common.{◌≡◌, ℕ, Bool, false, List, ◌++◌, length, map, take, replicate, ◌≤◌, ap, ap₂, ◌∙◌, arith}
use Rattle.std.specs.Prelude.{◌&&◌, ◌||◌}
use Rattle.lane_kinds.proofs.LaneCounts.{turns_many}
use Rattle.lane_kinds.proofs.LanesMade.{fresh_marks, lanes_say, or_parts, ticked_many}
use Rattle.lane_kinds.proofs.RoundsMade.{MarksSay}
use Rattle.lane_kinds.specs.Both.{BothMake, BothTick, Two, both}
use Rattle.lane_kinds.specs.Lanes.{Entries, LaneKind, all_calm, lanes_of, unmarked}
use Rattle.lane_kinds.specs.LanesMade.{Marks, all_true, both_true, first_marks, names}
use Rattle.lane_kinds.specs.Rounds.{Rounds, tick_marks}
use Rattle.lane_kinds.specs.RoundsMade.{RoundSaid, TicksMade, both_said}

abbrev two_of : {A B : Type 0} → A → B → Two A B
two_of a b = record { first = a; second = b }

module _ {W V M N R Q E P O : Type 0} (K : Rounds W M R E) (L : Rounds V N Q E) (one : R → P) (two : Q → O) where
  -- A ROUND of both, and their ticks
  pub both_round : (quiet : Two P O) (w v : Two W V) (part later : List E) → RoundSaid K one quiet.first w.first part v.first → RoundSaid L two quiet.second w.second later v.second
      → RoundSaid (both K L) (both_said one two) quiet w (part ++ later) v
  both_round quiet w v part later first second = record {
    steps = two_of first.steps second.steps;
    round = grind arith;
    marks = ap₂ (two_of {A = P} {B = O}) first.marks second.marks;
  }

  pub both_ticks : (had have : Two M N) (some any : Bool) (w v : Two W V) (part later : List E) → TicksMade K (tick_marks had.first some have.first) w.first part v.first
      → TicksMade L (tick_marks had.second any have.second) w.second later v.second → TicksMade (both K L) (tick_marks had (some || any) have) w (part ++ later) v
  both_ticks had have some any w v part later first second = grind arith

  -- WHAT THE MARKS OF BOTH SAY
  pub both_say : (all : P → Bool) (every : O → Bool) (named : P → W → List E) (names : O → V → List E) → MarksSay K one all named → MarksSay L two every names
      → MarksSay (both K L) (both_said one two) (λ quiet. all quiet.first && every quiet.second) (λ quiet w. named quiet.first w.first ++ names quiet.second w.second)
  both_say all every named names first second = grind (arith, or_parts)

-- OF TWO LISTS: as many lanes
pub record AsMany {S T : Type 0} (w v : Two (List S) (List T)) : Type 0 where
  pub of_first : length v.first ≡ length w.first
  pub of_second : length v.second ≡ length w.second

pub many_then : {S T : Type 0} (w m v : Two (List S) (List T)) → AsMany w m → AsMany m v → AsMany w v
many_then w m v one two = record { of_first = two.of_first ∙ one.of_first; of_second = two.of_second ∙ one.of_second }

-- have the same marks
pub same_marks : {S T : Type 0} (w v : Two (List S) (List T)) → AsMany w v → (marks : Marks) → first_marks v marks ≡ first_marks w marks
same_marks w v many marks = ap₂ (two_of {A = List Bool} {B = List Bool}) (ap (λ (n : ℕ). take n marks.first) many.of_first) (ap (λ (n : ℕ). take n marks.second) many.of_second)

-- and none is marked at first
pub none_marked : {S T : Type 0} (most : ℕ) (w : Two (List S) (List T)) → length w.first ≤ most → length w.second ≤ most
    → first_marks w (two_of (replicate most false) (replicate most false)) ≡ two_of (unmarked w.first) (unmarked w.second)
none_marked most w one two = ap₂ (two_of {A = List Bool} {B = List Bool}) (fresh_marks most w.first one) (fresh_marks most w.second two)

module _ {S V T X E : Type 0} (K : LaneKind S V) (N : Entries V E) (L : LaneKind T X) (O : Entries X E) where
  abbrev pub both_lists : Rounds (Two (List S) (List T)) Marks (Two (List (List V)) (List (List X))) E
  both_lists = both (lanes_of K N) (lanes_of L O)

  abbrev pub say_lists : Two (List (List V)) (List (List X)) → Marks
  say_lists = both_said (map (all_calm K)) (map (all_calm L))

  abbrev pub names_of : Marks → Two (List S) (List T) → List E
  names_of quiet w = names K N 0 quiet.first w.first ++ names L O 0 quiet.second w.second

  pub lists_say : MarksSay both_lists say_lists both_true names_of
  lists_say =
      both_say (lanes_of K N) (lanes_of L O) (map (all_calm K)) (map (all_calm L)) all_true all_true (names K N 0) (names L O 0) (lanes_say K N) (lanes_say L O)

  pub many_made : (w : Two (List S) (List T)) (r : Two (List (List V)) (List (List X))) (v : Two (List S) (List T)) → BothMake (lanes_of K N) (lanes_of L O) w r v → AsMany w v
  many_made w r v made = grind (arith, turns_many)

  pub many_ticked : (w : Two (List S) (List T)) (had : Marks) (v : Two (List S) (List T)) → BothTick (lanes_of K N) (lanes_of L O) w had v → AsMany w v
  many_ticked w had v ticks = record {
    of_first = ticked_many K N w.first had.first v.first ticks.of_first;
    of_second = ticked_many L O w.second had.second v.second ticks.of_second;
  }
