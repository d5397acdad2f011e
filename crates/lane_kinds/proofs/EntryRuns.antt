-- The part of a settle over lanes of one kind runs them, entry by entry. Entries of lanes of another kind leave them
-- as they were.
use Rattle.std.proofs.Common.{◌≡◌, ℕ, ◌+◌, ◌≤◌, ◌<◌, Bool, true, false, List, [], ◌∷◌, ◌++◌, length, refl, sym, subst, arith, append_assoc, length-append}
use Rattle.std.specs.Prelude.{if◌then◌else◌}
use Rattle.runs.specs.Run.{Run, run_append}
use Rattle.lane_kinds.proofs.LaneCounts.{run_many}
use Rattle.lane_kinds.proofs.Lanes.{as_many}
use Rattle.lane_kinds.proofs.LaneFronts.{of_both}
use Rattle.lane_kinds.proofs.Moving.{one_more, one_steps, same_lanes}
use Rattle.lane_kinds.specs.Both.{Skips}
use Rattle.lane_kinds.specs.Lanes.{EachOf, Entries, EntryOf, IsSilent, LaneKind, MakeTurns, StepOf, TickAll, TicksIf, gets_tick, lanes_of, left_names, round_entries, tick_entries, turn_entries}
use Rattle.lane_kinds.specs.Laws.{AnswersLead, Leads}

-- NUMBERS
still_within : (k n m : ℕ) → k < n → m ≡ n → k < m
still_within k n m less same = omega (arith, less, same)

first_within : (k more n m : ℕ) → k + m ≤ n → m ≡ more + 1 → k < n
first_within k more n m few long = omega (arith, few, long)

next_within : (k more n m long : ℕ) → k + m ≤ n → m ≡ more + 1 → long ≡ n → (k + 1) + more ≤ long
next_within k more n m long few one same = omega (arith, few, one, same)

all_within : (n m : ℕ) → n ≡ m → 0 + n ≤ m
all_within n m same = omega (arith, same)

place_within : (k n m more all : ℕ) → k ≡ 0 + n → all ≡ n + m → m ≡ more + 1 → k < all
place_within k n m more all place long some = omega (arith, place, long, some)

-- EACH ENTRY of a settle's part is as those of its lanes are, and each name as theirs
module _ {T X E : Type 0} (L : LaneKind T X) (N : Entries X E) (P : E → Type 0) where
  unless_each : (c : Bool) (x : E) → P x → EachOf P (if c then [] else x ∷ [])
  unless_each true x holds = tt
  unless_each false x holds = (holds, tt)

  when_each : (c : Bool) (x : E) → P x → EachOf P (if c then x ∷ [] else [])
  when_each true x holds = (holds, tt)
  when_each false x holds = tt

  module _ (event : (k : ℕ) (event : X) → P (N.of_lane k event)) where
    turn_each : (k : ℕ) (events : List X) → EachOf P (turn_entries L N k events)
    turn_each k [] = tt
    turn_each k (x ∷ events) =
        of_both P (if L.is_silent x then [] else N.of_lane k x ∷ []) (turn_entries L N k events) (unless_each (L.is_silent x) (N.of_lane k x) (event k x)) (turn_each k events)

    pub round_each : (k : ℕ) (turns : List (List X)) → EachOf P (round_entries L N k turns)
    round_each k [] = tt
    round_each k (r ∷ turns) = of_both P (turn_entries L N k r) (round_entries L N (k + 1) turns) (turn_each k r) (round_each (k + 1) turns)

    pub ticks_each : (k : ℕ) (lanes : List T) (marks : List Bool) → EachOf P (tick_entries L N k lanes marks)
    ticks_each k (s ∷ lanes) (had ∷ marks) = grind (arith, of_both, when_each, ticks_each (k + 1) lanes marks)
    ticks_each k lanes marks = grind arith

  module _ (left : (k : ℕ) → P (N.left_over k)) where
    pub names_each : (k : ℕ) (turns : List (List X)) (lanes : List T) → EachOf P (left_names L N k turns lanes)
    names_each k (r ∷ turns) (s ∷ lanes) = grind (arith, of_both, unless_each, names_each (k + 1) turns lanes)
    names_each k turns lanes = grind arith

-- WHAT LEAVES ALL AS THEY WERE is a run, and so is the first of it
module _ {W E : Type 0} (Step : W → E → W → Type 0) where
  abbrev pub Leaves : E → Type 0
  Leaves x = (w : W) → Step w x w

  pub leaving_runs : (part : List E) → EachOf Leaves part → (w : W) → Run Step w part w
  leaving_runs [] each w = refl
  leaving_runs (x ∷ part) each w = (w, each.0 w, leaving_runs part each.1 w)

  pub front_leaves : (part more all : List E) → part ++ more ≡ all → EachOf Leaves all → EachOf Leaves part
  front_leaves part more all is each = first part more (subst (EachOf Leaves) (sym is) each)
    where
      first : (part more : List E) → EachOf Leaves (part ++ more) → EachOf Leaves part
      first [] more each = tt
      first (x ∷ part) more each = (each.0, first part more each.1)

-- ENTRIES OF ANOTHER KIND
module _ {W T X E : Type 0} (Step : W → E → W → Type 0) (L : LaneKind T X) (N : Entries X E) (event : (k : ℕ) (event : X) → Leaves Step (N.of_lane k event))
    (left : (k : ℕ) → Leaves Step (N.left_over k)) where
  pub lanes_leave : Skips (lanes_of L N) (Run Step)
  lanes_leave = record {
    round = λ q w. leaving_runs Step (round_entries L N 0 q) (round_each L N (Leaves Step) event 0 q) w;
    ticks = λ v n w. leaving_runs Step (tick_entries L N 0 v n) (ticks_each L N (Leaves Step) event 0 v n) w;
    names = λ q v part more is w. leaving_runs Step part (front_leaves Step part more (left_names L N 0 q v) is (names_each L N (Leaves Step) left 0 q v)) w;
  }

-- ENTRIES OF THE KIND
module _ {S V E : Type 0} (K : LaneKind S V) (N : Entries V E) (Step : List S → E → List S → Type 0) (silent : IsSilent K)
    (tick_sees : (lanes : List S) (k : ℕ) (s : S) → K.Sees lanes k (K.tick s))
    (entry : (k : ℕ) (lanes : List S) (event : V) (behind : List S) → EntryOf K k lanes event behind → Step lanes (N.of_lane k event) behind)
    (left : (k : ℕ) → Leaves Step (N.left_over k)) (answer : Leaves Step N.settled) where
  event_runs : (quiet : Bool) (k : ℕ) (lanes : List S) (event : V) (between : List S) (rest : List E) (behind : List S) → K.is_silent event ≡ quiet → k < length lanes
      → StepOf K k lanes event between → Run Step between rest behind → Run Step lanes ((if quiet then [] else N.of_lane k event ∷ []) ++ rest) behind
  event_runs quiet k lanes event between rest behind is less step run = grind (arith, same_lanes)

  turn_runs : (k : ℕ) (lanes : List S) (events : List V) (behind : List S) → k < length lanes → Run (StepOf K k) lanes events behind → Run Step lanes (turn_entries K N k events) behind
  turn_runs k lanes [] behind less run = run
  turn_runs k lanes (event ∷ events) behind less run =
      event_runs (K.is_silent event) k lanes event run.0 (turn_entries K N k events) behind refl less run.1
      (turn_runs k run.0 events behind (still_within k (length lanes) (length run.0) less (as_many K 0 k lanes event run.0 run.1.step)) run.2)

  turns_run : (k : ℕ) (lanes : List S) (turns : List (List V)) (behind : List S) → k + length turns ≤ length lanes → MakeTurns K k lanes turns behind
      → Run Step lanes (round_entries K N k turns) behind
  turns_run k lanes [] behind few made = made
  turns_run k lanes (r ∷ turns) behind few made =
      run_append Step lanes made.0 behind (turn_entries K N k r) (round_entries K N (k + 1) turns)
      (turn_runs k lanes r made.0 (first_within k (length turns) (length lanes) (length (r ∷ turns)) few (omega (arith))) made.1.run)
      (turns_run (k + 1) made.0 turns behind
      (next_within k (length turns) (length lanes) (length (r ∷ turns)) (length made.0) few (omega (arith)) (run_many K k lanes r made.0 made.1.run)) made.2)

  tick_runs : (get : Bool) (k : ℕ) (front : List S) (s : S) (lanes : List S) (t : S) → k ≡ 0 + length front → TicksIf K get s t
      → Run Step (front ++ s ∷ lanes) (if get then N.of_lane k (K.tick s) ∷ [] else []) (front ++ t ∷ lanes)
  tick_runs get k front s lanes t place step = grind (arith, length-append, one_steps)

  ticks_run : (k : ℕ) (front lanes : List S) (marks : List Bool) (behind : List S) → k ≡ 0 + length front → TickAll K lanes marks behind
      → Run Step (front ++ lanes) (tick_entries K N k lanes marks) (front ++ behind)
  ticks_run k front [] [] [] place ticks = refl
  ticks_run k front (s ∷ lanes) (had ∷ marks) (t ∷ behind) place ticks =
      let next : k + 1 ≡ 0 + length (front ++ t ∷ []) = one_more k (length front) (length (front ++ t ∷ [])) place (length-append front (t ∷ [])) in
      let rest : Run Step ((front ++ t ∷ []) ++ lanes) (tick_entries K N (k + 1) lanes marks) ((front ++ t ∷ []) ++ behind) =
      ticks_run (k + 1) (front ++ t ∷ []) lanes marks behind next ticks.1 in
      run_append Step (front ++ s ∷ lanes) (front ++ t ∷ lanes) (front ++ t ∷ behind) (if gets_tick K s had then N.of_lane k (K.tick s) ∷ [] else []) (tick_entries K N (k + 1) lanes marks)
      (tick_runs (gets_tick K s had) k front s lanes t place ticks.0)
      (subst (λ (l : List S). Run Step l (tick_entries K N (k + 1) lanes marks) (front ++ t ∷ behind)) (append_assoc front (t ∷ []) lanes)
      (subst (Run Step ((front ++ t ∷ []) ++ lanes) (tick_entries K N (k + 1) lanes marks)) (append_assoc front (t ∷ []) behind) rest))
  ticks_run k front _ _ _ place ticks = absurd ticks

  pub entries_lead : Leads (lanes_of K N) (Run Step)
  entries_lead = record {
    none = λ w. refl;
    both = λ w m v one two first second. run_append Step w m v one two first second;
    round = λ w r v made. turns_run 0 w r v (all_within (length r) (length w) made.many) made.turns_made;
    ticks = λ w m v ticks. ticks_run 0 [] w m v refl ticks;
  }

  pub entries_end : AnswersLead (lanes_of K N) (Run Step)
  entries_end = record {
    answer = λ w. (w, answer w, refl);
    names = λ r w part more is. leaving_runs Step part (front_leaves Step part more (left_names K N 0 r w) is (names_each K N (Leaves Step) left 0 r w)) w;
  }
