-- Behind a settle that ends settled each lane of a list is finished, or is one that somebody forged and that had its
-- tick.
use Rattle.std.proofs.Common.{◌≡◌, ℕ, ◌+◌, ◌⊎◌, inl, inr, Bool, true, false, List, [], ◌∷◌, refl, sym, subst, arith}
use Rattle.std.specs.Prelude.{◌||◌, if◌then◌else◌}
use Rattle.runs.specs.Run.{Run}
use Rattle.lane_kinds.proofs.Lanes.{round_calmly}
use Rattle.lane_kinds.proofs.Sums.{or_left, or_right}
use Rattle.lane_kinds.specs.Lanes.{AllStep, CalmTurn, Calmly, EachMarked, EachOf, EachStep, Entries, IsLaneAtRest, LaneKind, ComesToRest, MakeTurns, StepOf, TickAll, TicksIf, gets_tick, lanes_of, marked, own_or, some_tick, unmarked}
use Rattle.lane_kinds.specs.Laws.{KeepsStanding}
use Rattle.lane_kinds.specs.Settles.{EndsWith}

module _ {S V : Type 0} (K : LaneKind S V) (Reached Unforged Lossless : S → Type 0) (laws : ComesToRest K Reached Unforged Lossless) where
  run_reached : (s : S) (events : List V) (t : S) → Reached s → Run K.Step s events t → Reached t
  run_reached s [] t at run = subst Reached run at
  run_reached s (event ∷ events) t at run = run_reached run.0 events t (laws.reached s event run.0 at run.1) run.2

  run_unforged : (s : S) (events : List V) (t : S) → EachStep K events → Run K.Step s events t → Unforged t → Unforged s
  run_unforged s [] t steps run clean = subst Unforged (sym run) clean
  run_unforged s (event ∷ events) t steps run clean = laws.was_unforged s event run.0 run.1 steps.0 (run_unforged run.0 events t steps.1 run.2 clean)

  -- A LANE was reached, and lost nothing where it had its tick
  pub record IsWhole (s : S) (had : Bool) : Type 0 where
    pub reached : Reached s
    pub whole : had ≡ true → Lossless s

  lane_whole : (own : Bool) (k : ℕ) (s : S) (event : V) (t : S) (had : Bool) → IsWhole s had → K.IsStep event → Run K.Step s (own_or own event (K.gets k event)) t → IsWhole t had
  lane_whole own k s event t had given step run = grind (arith, run_reached)

  event_whole : (j k : ℕ) (lanes : List S) (event : V) (behind : List S) (marks : List Bool) → EachMarked IsWhole lanes marks → K.IsStep event → AllStep K j lanes k event behind
      → EachMarked IsWhole behind marks
  event_whole j k (s ∷ lanes) event (t ∷ behind) (had ∷ marks) at step all = grind (arith, lane_whole, event_whole (j + 1) k lanes event behind marks at.1 step all.1)
  event_whole j k lanes event behind marks given step all = grind arith

  turn_whole : (k : ℕ) (lanes : List S) (events : List V) (behind : List S) (marks : List Bool) → EachMarked IsWhole lanes marks → EachStep K events → Run (StepOf K k) lanes events behind
      → EachMarked IsWhole behind marks
  turn_whole k lanes [] behind marks at steps run = subst (λ (l : List S). EachMarked IsWhole l marks) run at
  turn_whole k lanes (event ∷ events) behind marks at steps run =
      turn_whole k run.0 events behind marks (event_whole 0 k lanes event run.0 marks at steps.0 run.1.step) steps.1 run.2

  turns_whole : (k : ℕ) (lanes : List S) (turns : List (List V)) (behind : List S) (marks : List Bool) → EachMarked IsWhole lanes marks → MakeTurns K k lanes turns behind
      → EachMarked IsWhole behind marks
  turns_whole k lanes [] behind marks at made = subst (λ (l : List S). EachMarked IsWhole l marks) made at
  turns_whole k lanes (r ∷ turns) behind marks at made =
      turns_whole (k + 1) made.0 turns behind marks (turn_whole k lanes r made.0 marks at (laws.turn_steps r made.1.of_turn) made.1.run) made.2

  -- THE TICKS
  tick_whole : (had waits : Bool) (s : S) (r : List V) (t u : S) → Reached s → IsWhole t had → CalmTurn K s r t → TicksIf K (if had then false else waits) t u
      → IsWhole u (had || (if had then false else waits))
  tick_whole had waits s r t u given whole turn same = grind arith

  ticks_whole : (lanes : List S) (turns : List (List V)) (between : List S) (marks : List Bool) (behind : List S) → EachMarked IsWhole lanes marks → EachMarked IsWhole between marks
      → Calmly K lanes turns between → TickAll K between marks behind → EachMarked IsWhole behind (marked K between marks)
  ticks_whole (s ∷ lanes) (r ∷ turns) (t ∷ between) (had ∷ marks) (u ∷ behind) was whole calm ticks =
      grind (arith, tick_whole, ticks_whole lanes turns between marks behind was.1 whole.1 calm.1 ticks.1)
  ticks_whole lanes turns between marks behind was whole calm ticks = grind arith

  pub lanes_keep : {E : Type 0} (N : Entries V E) → KeepsStanding (lanes_of K N) (EachMarked IsWhole)
  lanes_keep N = record {
    round = λ w m r v at made. turns_whole 0 w r v m at made.turns_made;
    ticks = λ w m r v u at made quiet ticks. ticks_whole w r v m u at (turns_whole 0 w r v m at made.turns_made) (round_calmly K laws.calm_gives w r v quiet made) ticks;
  }

  pub whole_fresh : (lanes : List S) → EachOf Reached lanes → EachMarked IsWhole lanes (unmarked lanes)
  whole_fresh [] at = tt
  whole_fresh (s ∷ lanes) at = (record { reached = at.0; whole = λ never. absurd (cc never) }, whole_fresh lanes at.1)

  -- THE LAST ROUND
  ticked_or : (had waits : Bool) → (if had then false else waits) ≡ false → (waits ≡ false) ⊎ (had ≡ true)
  ticked_or true waits none = inr refl
  ticked_or false waits none = inl none

  finished_by : (had : Bool) (s : S) (r : List V) (t : S) → IsWhole s had → CalmTurn K s r t → (K.waits_on t ≡ false) ⊎ (had ≡ true) → Unforged t → K.waits_on t ≡ false
  finished_by had s r t at turn (inl finished) clean = finished
  finished_by had s r t at turn (inr marked) clean = laws.finishes s r t at.reached (run_unforged s r t (laws.turn_steps r turn.of_turn) turn.run clean) (at.whole marked) turn

  lane_rests : (had : Bool) (s : S) (r : List V) (t : S) → IsWhole s had → CalmTurn K s r t → gets_tick K t had ≡ false → IsLaneAtRest K Unforged t had
  lane_rests had s r t at turn none = record {
    ticked = ticked_or had (K.waits_on t) none;
    finished = λ clean. finished_by had s r t at turn (ticked_or had (K.waits_on t) none) clean;
  }

  -- whatever follows for one lane
  module _ (P : S → Bool → Type 0) (lane : (had : Bool) (s : S) (r : List V) (t : S) → IsWhole s had → CalmTurn K s r t → gets_tick K t had ≡ false → P t had) where
    last_each : (lanes : List S) (turns : List (List V)) (behind : List S) (marks : List Bool) → EachMarked IsWhole lanes marks → Calmly K lanes turns behind → some_tick K behind marks ≡ false
        → EachMarked P behind marks
    last_each (s ∷ lanes) (r ∷ turns) (t ∷ behind) (had ∷ marks) at calm none =
        grind (arith, or_left, or_right, last_each lanes turns behind marks at.1 calm.1 (or_right (gets_tick K t had) (some_tick K behind marks) none))
    last_each lanes turns behind marks given calm none = grind arith

    pub all_each : {E : Type 0} (N : Entries V E) (behind : List S) (marks : List Bool) → EndsWith (lanes_of K N) (EachMarked IsWhole) behind marks → EachMarked P behind marks
    all_each N behind marks at = last_each at.before at.steps behind marks at.stands (round_calmly K laws.calm_gives at.before at.steps behind at.quiet at.made) at.no_tick

  pub all_rest : {E : Type 0} (N : Entries V E) (behind : List S) (marks : List Bool) → EndsWith (lanes_of K N) (EachMarked IsWhole) behind marks
      → EachMarked (IsLaneAtRest K Unforged) behind marks
  all_rest N behind marks at = all_each (IsLaneAtRest K Unforged) lane_rests N behind marks at
