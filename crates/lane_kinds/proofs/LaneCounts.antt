-- CountsRounds over the part of a settle of a list of lanes: what moves, ticks, how often an end finds no room; and the
-- names of those left over.
use Rattle.std.proofs.Common.{◌≡◌, ℕ, ◌+◌, ◌≤◌, ◌<◌, Bool, true, false, List, [], ◌∷◌, ◌++◌, length, refl, sym, ap, ◌∙◌, arith}
use Rattle.std.proofs.lemmas.Bool.{eqb-true}
use Rattle.std.specs.Prelude.{◌&&◌, ◌||◌, ◌==◌, if◌then◌else◌}
use Rattle.lane_kinds.proofs.Finishing.{IsWhole, lanes_keep}
use Rattle.lane_kinds.proofs.Lanes.{as_many}
use Rattle.lane_kinds.proofs.Stuck.{sum_both}
use Rattle.lane_kinds.specs.Both.{Ignores}
use Rattle.lane_kinds.specs.LaneCounts.{LaneMoves, LaneTicks, LaneUnsticks, TickWaits, mark_at, once}
use Rattle.lane_kinds.specs.Lanes.{EachMarked, EachStep, Entries, LaneKind, ComesToRest, MakeRound, MakeTurns, StepOf, TickAll, TicksIf, all_calm, are_still, gets_tick, lanes_of, left_names, marked, round_entries, some_tick, tick_entries, turn_entries, unmarked}
use Rattle.lane_kinds.specs.Laws.{CountsRounds, Moves, Names, Unsticks}
use Rattle.lane_kinds.specs.Stuck.{sum_over}
use Rattle.runs.specs.Run.{Run}

-- NUMBERS
first_some : (all a b : ℕ) → all ≡ a + b → 1 ≤ a → 1 ≤ all
first_some all a b sum some = omega (arith, sum, some)

second_some : (all a b : ℕ) → all ≡ a + b → 1 ≤ b → 1 ≤ all
second_some all a b sum some = omega (arith, sum, some)

none_of_two : (all a b : ℕ) → all ≡ a + b → a ≤ 0 → b ≤ 0 → all ≤ 0
none_of_two all a b sum one two = omega (arith, sum, one, two)

alone_some : (n : ℕ) → 1 ≤ n → 1 ≤ n + 0
alone_some n some = omega (arith, some)

alone_none : (n : ℕ) → n ≡ 0 → n + 0 ≤ 0
alone_none n none = omega (arith, none)

below_next : (j k : ℕ) → k < j → k < j + 1
below_next j k less = omega (arith, less)

pub not_there : (c : Bool) (a j k : ℕ) → (c ≡ true → j ≡ k) → k < j → a ≤ once c → a ≤ 0
not_there true a j k same less few = absurd (omega (arith, same refl, less))
not_there false a j k same less few = few

pub one_here : (c : Bool) (a b d j k : ℕ) → a ≡ b + d → b ≤ once c → (c ≡ true → j ≡ k) → (k < j + 1 → d ≤ 0) → d ≤ 1 → a ≤ 1
one_here true a b d j k is one same none few = omega (arith, is, one, none (omega (arith, same refl)))
one_here false a b d j k is one same none few = omega (arith, is, one, few)

-- WHAT MOVES
module _ {S V E : Type 0} (K : LaneKind S V) (N : Entries V E) (moves : E → ℕ) (laws : LaneMoves K N moves) where
  loud_event : (silent : Bool) (k : ℕ) (event : V) → K.is_silent event ≡ silent → K.is_calm event ≡ false → 1 ≤ sum_over moves (if silent then [] else N.of_lane k event ∷ [])
  loud_event true k event is loud = let never : true ≡ false = sym (laws.silent_calm event is) ∙ loud in absurd (cc never)
  loud_event false k event is loud = alone_some (moves (N.of_lane k event)) (laws.loud k event loud)

  loud_one : (calm : Bool) (all a b : ℕ) (more : Bool) → all ≡ a + b → (calm && more) ≡ false → (calm ≡ false → 1 ≤ a) → (more ≡ false → 1 ≤ b) → 1 ≤ all
  loud_one true all a b more sum loud one rest = second_some all a b sum (rest loud)
  loud_one false all a b more sum loud one rest = first_some all a b sum (one refl)

  turn_moves : (k : ℕ) (events : List V) → all_calm K events ≡ false → 1 ≤ sum_over moves (turn_entries K N k events)
  turn_moves k [] loud = absurd (cc loud)
  turn_moves k (event ∷ events) loud = grind (arith, loud_one, sum_both, loud_event, turn_moves k events)

  round_moves : (k : ℕ) (turns : List (List V)) → are_still K turns ≡ false → 1 ≤ sum_over moves (round_entries K N k turns)
  round_moves k [] loud = absurd (cc loud)
  round_moves k (r ∷ turns) loud = grind (arith, loud_one, sum_both, turn_moves, round_moves (k + 1) turns)

  some_one : (get : Bool) (all a b : ℕ) (more : Bool) → all ≡ a + b → (get || more) ≡ true → (get ≡ true → 1 ≤ a) → (more ≡ true → 1 ≤ b) → 1 ≤ all
  some_one true all a b more sum some one rest = first_some all a b sum (one refl)
  some_one false all a b more sum some one rest = second_some all a b sum (rest some)

  tick_moves : (get : Bool) (k : ℕ) (s : S) → get ≡ true → 1 ≤ sum_over moves (if get then N.of_lane k (K.tick s) ∷ [] else [])
  tick_moves true k s is = alone_some (moves (N.of_lane k (K.tick s))) (laws.tick k s)
  tick_moves false k s is = absurd (cc is)

  ticks_move : (k : ℕ) (lanes : List S) (marks : List Bool) → some_tick K lanes marks ≡ true → 1 ≤ sum_over moves (tick_entries K N k lanes marks)
  ticks_move k (s ∷ lanes) (had ∷ marks) some = grind (arith, some_one, sum_both, tick_moves, ticks_move (k + 1) lanes marks)
  ticks_move k lanes marks some = grind arith

  pub lanes_move : Moves (lanes_of K N) (sum_over moves)
  lanes_move = record { both = sum_both moves; round = round_moves 0; ticks = ticks_move 0 }

-- TICKS
module _ {S V E : Type 0} (K : LaneKind S V) (N : Entries V E) (ticks : ℕ → E → ℕ) (laws : LaneTicks K N ticks) where
  event_none : (silent : Bool) (k j : ℕ) (event : V) → K.IsStep event → sum_over (ticks k) (if silent then [] else N.of_lane j event ∷ []) ≤ 0
  event_none true k j event own = omega (arith)
  event_none false k j event own = alone_none (ticks k (N.of_lane j event)) (laws.step k j event own)

  turn_none : (k j : ℕ) (events : List V) → EachStep K events → sum_over (ticks k) (turn_entries K N j events) ≤ 0
  turn_none k j [] steps = omega (arith)
  turn_none k j (event ∷ events) steps = grind (arith, none_of_two, sum_both, event_none, turn_none k j events steps.1)

  round_none : (k j : ℕ) (lanes : List S) (turns : List (List V)) (behind : List S) → MakeTurns K j lanes turns behind → sum_over (ticks k) (round_entries K N j turns) ≤ 0
  round_none k j lanes [] behind made = omega (arith)
  round_none k j lanes (r ∷ turns) behind made = grind (arith, none_of_two, sum_both, turn_none, round_none k (j + 1) made.0 turns behind made.2)

  -- a tick marks its lane, which had no mark
  tick_counts : (c had waits : Bool) → once (c && (if had then false else waits)) + once (c && had) ≡ once (c && (had || (if had then false else waits)))
  tick_counts c had waits = grind arith

  alone : (n m : ℕ) → n ≡ m → n + 0 ≡ m
  alone n m is = omega (arith, is)

  pub tick_is : (get : Bool) (k j : ℕ) (s : S) → sum_over (ticks k) (if get then N.of_lane j (K.tick s) ∷ [] else []) ≡ once ((j == k) && get)
  tick_is get k j s = grind (arith, alone)

  lane_ticks : (all one rest x mark marks new more : ℕ) → all ≡ one + rest → one ≡ x → x + mark ≡ new → rest + marks ≡ more → all + (mark + marks) ≡ new + more
  lane_ticks all one rest x mark marks new more sum few here others = omega (arith, sum, few, here, others)

  pub ticks_mark : (k j : ℕ) (lanes : List S) (marks : List Bool) (behind : List S) → TickAll K lanes marks behind
      → sum_over (ticks k) (tick_entries K N j lanes marks) + mark_at k j marks ≡ mark_at k j (marked K lanes marks)
  ticks_mark k j (s ∷ lanes) (had ∷ marks) (t ∷ behind) made =
      grind (arith, lane_ticks, sum_both, tick_is, tick_counts, ticks_mark k (j + 1) lanes marks behind made.1)
  ticks_mark k j lanes marks behind made = grind arith

  -- one mark at most
  first_none : (c : Bool) (rest : ℕ) → rest ≡ 0 → once (c && false) + rest ≡ 0
  first_none true rest none = omega (arith, none)
  first_none false rest none = omega (arith, none)

  pub none_marked : (k j : ℕ) (lanes : List S) → mark_at k j (unmarked lanes) ≡ 0
  none_marked k j [] = refl
  none_marked k j (s ∷ lanes) = first_none (j == k) (mark_at k (j + 1) (unmarked lanes)) (none_marked k (j + 1) lanes)

  no_mark : (c had : Bool) (rest j k : ℕ) → (c ≡ true → j ≡ k) → k < j → rest ≤ 0 → once (c && had) + rest ≤ 0
  no_mark true had rest j k same less none = absurd (omega (arith, same refl, less))
  no_mark false had rest j k same less none = omega (arith, none)

  no_marks_behind : (k j : ℕ) (marks : List Bool) → k < j → mark_at k j marks ≤ 0
  no_marks_behind k j [] less = omega (arith)
  no_marks_behind k j (had ∷ marks) less = no_mark (j == k) had (mark_at k (j + 1) marks) j k (eqb-true j k) less (no_marks_behind k (j + 1) marks (below_next j k less))

  one_mark : (c had : Bool) (rest j k : ℕ) → (c ≡ true → j ≡ k) → (k < j + 1 → rest ≤ 0) → rest ≤ 1 → once (c && had) + rest ≤ 1
  one_mark c had rest j k same none few = grind arith

  pub mark_most : (k j : ℕ) (marks : List Bool) → mark_at k j marks ≤ 1
  mark_most k j [] = omega (arith)
  mark_most k j (had ∷ marks) = one_mark (j == k) had (mark_at k (j + 1) marks) j k (eqb-true j k) (λ less. no_marks_behind k (j + 1) marks less) (mark_most k (j + 1) marks)

  name_none : (k j : ℕ) (c : Bool) → sum_over (ticks k) (if c then [] else N.left_over j ∷ []) ≤ 0
  name_none k j true = omega (arith)
  name_none k j false = alone_none (ticks k (N.left_over j)) (laws.left k j)

  names_none : (k j : ℕ) (turns : List (List V)) (lanes : List S) → sum_over (ticks k) (left_names K N j turns lanes) ≤ 0
  names_none k j (r ∷ turns) (s ∷ lanes) = grind (arith, none_of_two, sum_both, name_none, names_none k (j + 1) turns lanes)
  names_none k j turns lanes = grind arith

  answer_is : (n : ℕ) → n ≡ 0 → n + 0 ≡ 0
  answer_is n none = omega (arith, none)

  pub lanes_tick : (k : ℕ) → CountsRounds (lanes_of K N) (sum_over (ticks k)) (mark_at k 0)
  lanes_tick k = grind (arith, sum_both, round_none, ticks_mark, none_marked, mark_most, answer_is, names_none)

-- AN END THAT FINDS NO ROOM
module _ {S V E : Type 0} (K : LaneKind S V) (N : Entries V E) (k : ℕ) (stuck : ℕ → E → ℕ) (blocked moves : E → ℕ) (laws : LaneUnsticks K N k stuck blocked moves) where
  none_behind : (j : ℕ) (lanes : List S) (turns : List (List V)) (behind : List S) → k < j → MakeTurns K j lanes turns behind → sum_over blocked (round_entries K N j turns) ≤ 0
  none_behind j lanes [] behind less made = omega (arith)
  none_behind j lanes (r ∷ turns) behind less made =
      grind (arith, none_of_two, sum_both, not_there, eqb-true, below_next, none_behind (j + 1) made.0 turns behind (below_next j k less) made.2)

  round_once : (j : ℕ) (lanes : List S) (turns : List (List V)) (behind : List S) → MakeTurns K j lanes turns behind → sum_over blocked (round_entries K N j turns) ≤ 1
  round_once j lanes (r ∷ turns) behind made = grind (arith, one_here, sum_both, eqb-true, none_behind, round_once (j + 1) made.0 turns behind made.2)
  round_once j lanes turns behind made = grind arith

  tick_free : (get : Bool) (j : ℕ) (s : S) → sum_over blocked (if get then N.of_lane j (K.tick s) ∷ [] else []) ≤ 0
  tick_free true j s = alone_none (blocked (N.of_lane j (K.tick s))) (laws.tick j s)
  tick_free false j s = omega (arith)

  ticks_free : (j : ℕ) (lanes : List S) (marks : List Bool) → sum_over blocked (tick_entries K N j lanes marks) ≤ 0
  ticks_free j (s ∷ lanes) (had ∷ marks) = grind (arith, none_of_two, sum_both, tick_free, ticks_free (j + 1) lanes marks)
  ticks_free j lanes marks = grind arith

  name_free : (j : ℕ) (c : Bool) → sum_over blocked (if c then [] else N.left_over j ∷ []) ≤ 0
  name_free j true = omega (arith)
  name_free j false = alone_none (blocked (N.left_over j)) (laws.left j)

  names_free : (j : ℕ) (turns : List (List V)) (lanes : List S) → sum_over blocked (left_names K N j turns lanes) ≤ 0
  names_free j (r ∷ turns) (s ∷ lanes) = grind (arith, none_of_two, sum_both, name_free, names_free (j + 1) turns lanes)
  names_free j turns lanes = grind arith

  pub lanes_unstick : Unsticks (lanes_of K N) stuck blocked moves
  lanes_unstick = grind (arith, lanes_move, round_once, ticks_free, names_free)

-- THE LANES STAY as many
module _ {S V : Type 0} (K : LaneKind S V) where
  pub run_many : (k : ℕ) (lanes : List S) (events : List V) (behind : List S) → Run (StepOf K k) lanes events behind → length behind ≡ length lanes
  run_many k lanes [] behind run = ap (λ (l : List S). length l) (sym run)
  run_many k lanes (event ∷ events) behind run = run_many k run.0 events behind run.2 ∙ as_many K 0 k lanes event run.0 run.1.step

  pub turns_many : (k : ℕ) (lanes : List S) (turns : List (List V)) (behind : List S) → MakeTurns K k lanes turns behind → length behind ≡ length lanes
  turns_many k lanes [] behind made = ap (λ (l : List S). length l) (sym made)
  turns_many k lanes (r ∷ turns) behind made = turns_many (k + 1) made.0 turns behind made.2 ∙ run_many k lanes r made.0 made.1.run

-- NAMES
module _ {S V E : Type 0} (K : LaneKind S V) (N : Entries V E) where
  loud_here : (quiet waits more : Bool) (x : E) (rest : List E) → (quiet && more) ≡ false → (more ≡ false → 1 ≤ length rest)
      → 1 ≤ length ((if quiet && (if waits then false else true) then [] else x ∷ []) ++ rest)
  loud_here quiet waits more x rest loud others = grind arith

  loud_named : (k : ℕ) (turns : List (List V)) (lanes : List S) → length turns ≡ length lanes → are_still K turns ≡ false → 1 ≤ length (left_names K N k turns lanes)
  loud_named k (r ∷ turns) (s ∷ lanes) long loud = grind (arith, loud_here, loud_named (k + 1) turns lanes (omega (arith, long)))
  loud_named k turns lanes long loud = grind arith

  round_many : (lanes : List S) (turns : List (List V)) (behind : List S) → MakeRound K lanes turns behind → length turns ≡ length behind
  round_many lanes turns behind made = made.many ∙ sym (turns_many K 0 lanes turns behind made.turns_made)

  module _ (Reached Unforged Lossless : S → Type 0) (laws : ComesToRest K Reached Unforged Lossless) (waits : TickWaits K Reached) where
    named_where : (quiet waiting : Bool) (x : E) (rest : List E) → waiting ≡ true → 1 ≤ length ((if quiet && (if waiting then false else true) then [] else x ∷ []) ++ rest)
    named_where quiet waiting x rest is = grind arith

    gets_where : (had waiting : Bool) → (if had then false else waiting) ≡ true → waiting ≡ true
    gets_where true waiting gets = absurd (cc gets)
    gets_where false waiting gets = gets

    tick_here : (get had quiet more : Bool) (s t : S) (x : E) (rest : List E) → Reached s → gets_tick K s had ≡ get → TicksIf K get s t → (get || more) ≡ true → (more ≡ true → 1 ≤ length rest)
        → 1 ≤ length ((if quiet && (if K.waits_on t then false else true) then [] else x ∷ []) ++ rest)
    tick_here get had quiet more s t x rest given gets step some others = grind arith

    ticked_named : (k : ℕ) (turns : List (List V)) (between : List S) (marks : List Bool) (behind : List S) → EachMarked (IsWhole K Reached Unforged Lossless laws) between marks
        → length turns ≡ length between → TickAll K between marks behind → some_tick K between marks ≡ true → 1 ≤ length (left_names K N k turns behind)
    ticked_named k turns [] marks behind at long ticks some = absurd (cc some)
    ticked_named k turns (s ∷ between) [] behind at long ticks some = absurd (cc some)
    ticked_named k turns (s ∷ between) (had ∷ marks) [] at long ticks some = absurd ticks
    ticked_named k [] (s ∷ between) (had ∷ marks) (t ∷ behind) at long ticks some = absurd (omega (arith, long))
    ticked_named k (r ∷ turns) (s ∷ between) (had ∷ marks) (t ∷ behind) at long ticks some =
        tick_here (gets_tick K s had) had (all_calm K r) (some_tick K between marks) s t (N.left_over k) (left_names K N (k + 1) turns behind) at.0.reached refl ticks.0 some
        (λ more. ticked_named (k + 1) turns between marks behind at.1 (omega (arith, long)) ticks.1 more)

    pub lanes_name : Names (lanes_of K N) (EachMarked (IsWhole K Reached Unforged Lossless laws))
    lanes_name = record {
      loud = λ w r v made loud. loud_named 0 r v (round_many w r v made) loud;
      ticked = λ w m r v u at made ticks some. ticked_named 0 r v m u ((lanes_keep K Reached Unforged Lossless laws N).round w m r v at made) (round_many w r v made) ticks some;
    }

-- AND WHAT COUNTS NOTHING of another kind's lanes
module _ {S V E : Type 0} (K : LaneKind S V) (N : Entries V E) (count : E → ℕ) (events_none : (j : ℕ) (event : V) → count (N.of_lane j event) ≡ 0) (left_none : (j : ℕ) → count (N.left_over j) ≡ 0) where
  ignored : (c : Bool) (x : E) → count x ≡ 0 → sum_over count (if c then [] else x ∷ []) ≤ 0
  ignored true x none = omega (arith)
  ignored false x none = alone_none (count x) none

  turn_ignored : (j : ℕ) (events : List V) → sum_over count (turn_entries K N j events) ≤ 0
  turn_ignored j [] = omega (arith)
  turn_ignored j (event ∷ events) = grind (arith, none_of_two, sum_both, ignored, turn_ignored j events)

  round_ignored : (j : ℕ) (turns : List (List V)) → sum_over count (round_entries K N j turns) ≤ 0
  round_ignored j [] = omega (arith)
  round_ignored j (r ∷ turns) = grind (arith, none_of_two, sum_both, turn_ignored, round_ignored (j + 1) turns)

  tick_ignored : (get : Bool) (j : ℕ) (s : S) → sum_over count (if get then N.of_lane j (K.tick s) ∷ [] else []) ≤ 0
  tick_ignored true j s = alone_none (count (N.of_lane j (K.tick s))) (events_none j (K.tick s))
  tick_ignored false j s = omega (arith)

  ticks_ignored : (j : ℕ) (lanes : List S) (marks : List Bool) → sum_over count (tick_entries K N j lanes marks) ≤ 0
  ticks_ignored j (s ∷ lanes) (had ∷ marks) = grind (arith, none_of_two, sum_both, tick_ignored, ticks_ignored (j + 1) lanes marks)
  ticks_ignored j lanes marks = grind arith

  names_ignored : (j : ℕ) (turns : List (List V)) (lanes : List S) → sum_over count (left_names K N j turns lanes) ≤ 0
  names_ignored j (r ∷ turns) (s ∷ lanes) = grind (arith, none_of_two, sum_both, ignored, names_ignored (j + 1) turns lanes)
  names_ignored j turns lanes = grind arith

  pub lanes_ignore : Ignores (lanes_of K N) (sum_over count)
  lanes_ignore = record { round = round_ignored 0; ticks = ticks_ignored 0; names = names_ignored 0 }
