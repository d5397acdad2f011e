-- Disks are a kind of lane: the laws of one lane from which those of a settle follow.
use Rattle.std.proofs.Common.{◌≡◌, ◌⊎◌, ℕ, ◌+◌, ◌*◌, ◌≤◌, ◌<◌, inl, inr, Bool, true, false, List, [], ◌∷◌, ◌++◌, refl, sym, ap, ◌∙◌, subst, arith}
use Rattle.std.proofs.lemmas.Bool.{eq-eqb, eqb-true}
use Rattle.std.specs.Prelude.{◌&&◌, ◌==◌, if◌then◌else◌}
use Rattle.ldc_queue.specs.declared.end.End.{End}
use Rattle.ldc_queue.specs.declared.end.End.TheVariants.{A, B}
use Rattle.lane_models.specs.WireEvent.{Idle}
use Rattle.lane_models.specs.DiskEvent.{DiskEvent, Off, OnWire, Switches}
use Rattle.lane_models.specs.LaneState.{LaneState}
use Rattle.lane_models.specs.LaneStep.{LaneStep}
use Rattle.lane_models.specs.Reached.{IsReached}
use Rattle.lane_kinds.proofs.Stuck.{sum_both}
use Rattle.lane_kinds.specs.LaneCounts.{LaneMoves, LaneTicks, LaneUnsticks, TickWaits, once}
use Rattle.lane_kinds.specs.Lanes.{CalmTurn, EachStep, GivesNothing, IsSilent, LaneFalls, ComesToRest, Reads, turn_entries}
use Rattle.lane_kinds.specs.Stuck.{sum_over}
use Rattle.lane_laws.proofs.StepFalls.{idles, step_falls}
use Rattle.lane_laws.proofs.StepKeeps.{step_keeps}
use Rattle.lane_laws.specs.CalmEnds.{IsCalm, IsStep}
use Rattle.lane_laws.specs.Remaining.{remaining}
use Rattle.world_laws.proofs.Counts.{blocked, still_or_none, stuck_most}
use Rattle.world_laws.proofs.LaneRounds.{is_calm_where, quiet_finished, reached_on, round_keeps}
use Rattle.world_laws.proofs.LaneTicks.{tick_at, tick_falls, tick_whole, waits_where}
use Rattle.world_laws.specs.Along.{event_at}
use Rattle.world_laws.specs.DiskKind.{IsTurn, disk_kind, is_calm, is_silent, tick, waits_on}
use Rattle.world_laws.specs.Moves.{is_end, moves, stuck, ticks}
use Rattle.world_laws.specs.Rounds.{MakesRound}
use Rattle.world_laws.specs.Settle.{OfLane, disk_entries, entry_of}
use Rattle.world_laws.specs.Sums.{IsUnforged}

-- NO EVENT gives anything to another lane
pub gives_nothing : GivesNothing disk_kind
gives_nothing = record { gives = λ k event. refl; sees = λ lanes k event. tt }

-- A TURN is a step of each end
pub turn_steps : (events : List DiskEvent) → IsTurn events → EachStep disk_kind events
turn_steps (first ∷ second ∷ []) turn = ((A, turn.0), ((B, turn.1), tt))
turn_steps _ turn = absurd turn

own_round : (s : LaneState) (events : List DiskEvent) (t : LaneState) → CalmTurn disk_kind s events t → MakesRound s events t
own_round s events t turn = record { of_turn = turn.of_turn; run = turn.run }

-- WHAT REMAINS FALLS on a lane that was reached and that nobody forged
pub record IsClean (s : LaneState) : Type 0 where
  pub reached : IsReached s
  pub unforged : IsUnforged s

step_clean : (s : LaneState) (event : DiskEvent) (t : LaneState) → IsClean s → LaneStep s event t → disk_kind.IsStep event → IsClean t
step_clean s event t given step own = grind (arith, reached_on, step_keeps)

loud_by : (e : End) (s : LaneState) (event : DiskEvent) (t : LaneState) → is_calm event ≡ false → (IsCalm e event × (remaining t ≤ remaining s)) ⊎ (remaining t < remaining s)
    → remaining t + 7 * 0 < remaining s
loud_by e s event t loud (inl calm) = let never : true ≡ false = sym (is_calm_where e event calm.0) ∙ loud in absurd (cc never)
loud_by e s event t loud (inr less) = omega (arith, less)

calm_by : (e : End) (s : LaneState) (event : DiskEvent) (t : LaneState) → (IsCalm e event × (remaining t ≤ remaining s)) ⊎ (remaining t < remaining s) → remaining t ≤ remaining s
calm_by e s event t (inl calm) = calm.1
calm_by e s event t (inr less) = omega (arith, less)

as_before : (s t : LaneState) → s ≡ t → remaining t ≤ remaining s + 0
as_before s t same = omega (arith, ap remaining same)

pub disk_falls : LaneFalls disk_kind IsClean remaining (λ event. 0)
disk_falls = record {
  turn_steps = turn_steps;
  clean = step_clean;
  loud = λ s event t at step own loud. loud_by own.0 s event t loud (step_falls at.reached.shape at.reached.events s own.0 event t at.reached.sound at.reached.run at.unforged step own.1);
  calm = λ s event t at step own calm. calm_by own.0 s event t (step_falls at.reached.shape at.reached.events s own.0 event t at.reached.sound at.reached.run at.unforged step own.1);
  calm_gives = λ k event calm. refl;
  given_clean = λ k event s t at run. subst IsClean run at;
  given = λ k event s t at run. as_before s t run;
  tick_clean = λ s t at step. record { reached = reached_on s tick t at.reached step; unforged = (tick_at s t at.reached step).forged ∙ at.unforged };
  tick_falls = λ s events t u at turn waits step. tick_falls s events t u at.reached at.unforged (own_round s events t turn) turn.calm waits step;
}

-- WHERE IT LOST NOTHING it is finished by a calm turn
abbrev pub IsLossless : LaneState → Type 0
IsLossless s = s.wire.lossy ≡ false

not_waiting : (finished stopped : Bool) → (stopped ≡ false → finished ≡ true) → (if finished then false else if stopped then false else true) ≡ false
not_waiting true stopped done = refl
not_waiting false true done = refl
not_waiting false false done = let never : false ≡ true = done refl in absurd (cc never)

finishes : (s : LaneState) (events : List DiskEvent) (t : LaneState) → IsReached s → IsUnforged s → IsLossless s → CalmTurn disk_kind s events t → waits_on t ≡ false
finishes s events t given clean whole turn = grind (arith, own_round, round_keeps, not_waiting, quiet_finished)

pub disk_rests : ComesToRest disk_kind IsReached IsUnforged IsLossless
disk_rests = record {
  turn_steps = turn_steps;
  reached = reached_on;
  was_unforged = λ s event t step own clean. sym (step_keeps s own.0 event t step own.1).forged ∙ clean;
  lossless = λ s event t step own whole. (step_keeps s own.0 event t step own.1).whole whole;
  given_lossless = λ k event s t run whole. subst IsLossless run whole;
  calm_gives = λ k event calm. refl;
  tick_lossless = λ s events t u at turn step. tick_whole s events t u at (own_round s events t turn) turn.calm step;
  finishes = finishes;
}

-- a tick leaves it waiting
pub tick_waits : TickWaits disk_kind IsReached
tick_waits s t given waits step = grind (arith, tick_at, waits_where)

-- WHAT MOVES
silent_calm : (event : DiskEvent) → is_silent event ≡ true → is_calm event ≡ true
silent_calm (OnWire (Idle e)) is = refl
silent_calm (Switches Off) is = refl
silent_calm _ is = absurd (cc is)

loud_moves : (k : ℕ) (event : DiskEvent) → is_calm event ≡ false → 1 ≤ moves (OfLane k event)
loud_moves k event loud = grind arith

pub disk_moves : LaneMoves disk_kind disk_entries moves
disk_moves = grind arith

-- TICKS: no step is one, and a tick is one of its lane
never : (c : Bool) → once (c && false) ≡ 0
never true = refl
never false = refl

one_tick : (c : Bool) → once (c && true) ≡ once c
one_tick true = refl
one_tick false = refl

pub disk_ticks : LaneTicks disk_kind disk_entries ticks
disk_ticks = grind (arith, turn_steps, never)

-- AN END THAT FINDS NO ROOM does so once in its turn
alone : (n : ℕ) → n + 0 ≤ n
alone n = omega (arith)

step_blocked : (k : ℕ) (e : End) (j : ℕ) (d : End) (event : DiskEvent) → IsStep d event → sum_over (blocked k e) (entry_of j event) ≤ once ((j == k) && is_end d e)
step_blocked k e j d event own = grind arith

one_end : (c : Bool) (e : End) → once (c && is_end A e) + once (c && is_end B e) ≤ once c
one_end c e = grind arith

two_steps : (t a r b c x y : ℕ) → t ≡ a + r → r ≡ b + 0 → a ≤ x → b ≤ y → x + y ≤ c → t ≤ c
two_steps t a r b c x y is rest one two all = omega (arith, is, rest, one, two, all)

turn_blocked : (k : ℕ) (e : End) (j : ℕ) (events : List DiskEvent) → IsTurn events → sum_over (blocked k e) (turn_entries disk_kind disk_entries j events) ≤ once (j == k)
turn_blocked k e j (client ∷ server ∷ []) turn =
    two_steps (sum_over (blocked k e) (entry_of j client ++ (entry_of j server ++ []))) (sum_over (blocked k e) (entry_of j client)) (sum_over (blocked k e) (entry_of j server ++ []))
    (sum_over (blocked k e) (entry_of j server)) (once (j == k)) (once ((j == k) && is_end A e)) (once ((j == k) && is_end B e))
    (sum_both (blocked k e) (entry_of j client) (entry_of j server ++ [])) (sum_both (blocked k e) (entry_of j server) [])
    (step_blocked k e j A client turn.0) (step_blocked k e j B server turn.1) (one_end (j == k) e)
turn_blocked k e j [] turn = absurd turn
turn_blocked k e j (client ∷ []) turn = absurd turn
turn_blocked k e j (client ∷ server ∷ other ∷ events) turn = absurd turn

pub disk_unsticks : (k : ℕ) (e : End) → LaneUnsticks disk_kind disk_entries k (stuck k e) (blocked k e) moves
disk_unsticks k e = record {
  moving = disk_moves;
  most = stuck_most k e;
  or_none = still_or_none k e;
  turn = turn_blocked k e;
  tick = λ j s. refl;
  left = λ j. refl;
  answer = refl;
}

-- WHAT LEAVES NO ENTRY does nothing
pub disk_silent : IsSilent disk_kind
disk_silent = grind (arith, idles)

-- and an entry says what happened to its own lane
pub disk_reads : Reads disk_kind disk_entries event_at
disk_reads = grind (arith, eq-eqb, eqb-true)
