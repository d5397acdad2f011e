-- In a settle of two switches each port has one tick at most, no end is stuck three times with nothing else between,
-- and each round that goes on moves something; where the rounds run out some port is named.
use Rattle.std.proofs.Common.{◌≡◌, ◌⊎◌, inl, inr, ℕ, ◌+◌, ◌≤◌, Bool, true, false, List, [], ◌∷◌, length, refl, sym, subst, arith}
use Rattle.std.specs.Prelude.{◌==◌, if◌then◌else◌}
use Rattle.lane_kinds.proofs.Both.{both_move, both_name, first_counts, first_unsticks}
use Rattle.lane_kinds.proofs.Counting.{out_moves, part_counted}
use Rattle.lane_kinds.proofs.LaneCounts.{lanes_ignore, lanes_move, lanes_name, lanes_tick, lanes_unstick}
use Rattle.lane_kinds.proofs.Naming.{out_names}
use Rattle.lane_kinds.proofs.Stuck.{part_never}
use Rattle.lane_kinds.specs.Both.{BothHold, BothStand, Two}
use Rattle.lane_kinds.specs.LaneCounts.{LaneMoves, LaneTicks, LaneUnsticks, TickWaits, mark_at, once}
use Rattle.lane_kinds.specs.Lanes.{EachMarked, EachOf, lanes_of, turn_entries}
use Rattle.lane_kinds.specs.Laws.{CountsRounds, Moves, Names, Unsticks}
use Rattle.lane_kinds.specs.Settles.{RunsOut, SettlePart, most_rounds}
use Rattle.lane_kinds.specs.Stuck.{NeverThree, sum_over}
use Rattle.kind_cases.proofs.PortLaws.{port_rests, turn_steps}
use Rattle.kind_cases.proofs.Settling.{Whole, begins, keeps}
use Rattle.kind_cases.specs.PortCounts.{moves, port_blocked, port_stuck, port_ticks}
use Rattle.kind_cases.specs.Ports.{WayHasRoom, IsEither, IsLossless, IsPortTurn, IsSwitch, IsUnforged, Port, PortEvent, port_calm, port_silent, port_waits, ports}
use Rattle.kind_cases.specs.Ports.{Blocked, GuestIdle, Joined, Published, SwitchIdle, Switched, Taken, Tick}
use Rattle.kind_cases.specs.World.{OfPort, OfTwin, WorldEntry, of_ports, of_twins, two_switches}

-- WHAT MOVES
silent_calm : (event : PortEvent) → port_silent event ≡ true → port_calm event ≡ true
silent_calm GuestIdle is = refl
silent_calm SwitchIdle is = refl
silent_calm _ is = absurd (cc is)

port_moves : LaneMoves ports of_ports moves
port_moves = record { silent_calm = silent_calm; loud = loud; tick = λ k s. omega (arith) }
  where
    loud : (k : ℕ) (event : PortEvent) → port_calm event ≡ false → 1 ≤ moves (OfPort k event)
    loud k GuestIdle is = absurd (cc is)
    loud k Blocked is = absurd (cc is)
    loud k SwitchIdle is = absurd (cc is)
    loud k _ is = omega (arith)

twin_moves : LaneMoves ports of_twins moves
twin_moves = record { silent_calm = silent_calm; loud = loud; tick = λ k s. omega (arith) }
  where
    loud : (k : ℕ) (event : PortEvent) → port_calm event ≡ false → 1 ≤ moves (OfTwin k event)
    loud k GuestIdle is = absurd (cc is)
    loud k Blocked is = absurd (cc is)
    loud k SwitchIdle is = absurd (cc is)
    loud k _ is = omega (arith)

moving : Moves two_switches (sum_over moves)
moving =
    both_move (lanes_of ports of_ports) (lanes_of ports of_twins) (sum_over moves) (lanes_move ports of_ports moves port_moves) (lanes_move ports of_twins moves twin_moves)

pub runs_out_moving : (start : Two (List Port) (List Port)) (part : List WorldEntry) (behind : Two (List Port) (List Port)) → RunsOut two_switches start part behind
    → most_rounds two_switches start ≤ sum_over moves part
runs_out_moving start part behind out = out_moves two_switches (sum_over moves) moving start part behind out

-- TICKS of a port
pub ticks : LaneTicks ports of_ports port_ticks
ticks = record { turn_steps = turn_steps; step = step; tick = λ k j s. refl; left = λ k j. refl; answer = λ k. refl }
  where
    step : (k j : ℕ) (event : PortEvent) → IsEither event → port_ticks k (OfPort j event) ≡ 0
    step k j Tick own = absurd own
    step k j _ own = refl

pub ticks_counted : (k : ℕ) → CountsRounds two_switches (sum_over (port_ticks k)) (λ m. mark_at k 0 m.first)
ticks_counted k =
    first_counts (lanes_of ports of_ports) (lanes_of ports of_twins) (sum_over (port_ticks k)) (mark_at k 0) (lanes_tick ports of_ports port_ticks ticks k)
    (lanes_ignore ports of_twins (port_ticks k) (λ j event. refl) (λ j. refl))

pub one_tick : (start : Two (List Port) (List Port)) (part : List WorldEntry) (behind : Two (List Port) (List Port)) (k : ℕ) → SettlePart two_switches start part behind
    → sum_over (port_ticks k) part ≤ 1
one_tick start part behind k settle = part_counted two_switches (sum_over (port_ticks k)) (λ m. mark_at k 0 m.first) (ticks_counted k) start part behind settle

-- AN END THAT FINDS NO ROOM
counted : (c : Bool) (n : ℕ) → (if c then n + 1 else n) ≤ n + once c
counted true n = omega (arith)
counted false n = omega (arith)

stuck_most : (k n : ℕ) (x : WorldEntry) → port_stuck k n x ≤ n + port_blocked k x
stuck_most k n (OfPort j Blocked) = counted (j == k) n
stuck_most k n (OfTwin j Blocked) = omega (arith)
stuck_most k n _ = omega (arith)

still_or_none : (k : ℕ) (x : WorldEntry) → (moves x ≡ 0) ⊎ ((n : ℕ) → port_stuck k n x ≡ 0)
still_or_none k (OfPort j Blocked) = inl refl
still_or_none k (OfTwin j Blocked) = inl refl
still_or_none k _ = inr (λ n. refl)

no_less : (c : Bool) → 0 ≤ once c
no_less c = omega (arith)

alone : (n : ℕ) → n + 0 ≤ n
alone n = omega (arith)

switch_once : (k j : ℕ) (event : PortEvent) → IsSwitch event → sum_over (port_blocked k) (turn_entries ports of_ports j (event ∷ [])) ≤ once (j == k)
switch_once k j Blocked own = alone (once (j == k))
switch_once k j Switched own = no_less (j == k)
switch_once k j Published own = no_less (j == k)
switch_once k j SwitchIdle own = no_less (j == k)
switch_once k j _ own = absurd own

guest_first : (n m : ℕ) → n ≤ m → 0 + n ≤ m
guest_first n m less = omega (arith, less)

turn_once : (k j : ℕ) (events : List PortEvent) → IsPortTurn events → sum_over (port_blocked k) (turn_entries ports of_ports j events) ≤ once (j == k)
turn_once k j (Joined ∷ two ∷ []) turn =
    guest_first (sum_over (port_blocked k) (turn_entries ports of_ports j (two ∷ []))) (once (j == k)) (switch_once k j two turn.1)
turn_once k j (Taken ∷ two ∷ []) turn =
    guest_first (sum_over (port_blocked k) (turn_entries ports of_ports j (two ∷ []))) (once (j == k)) (switch_once k j two turn.1)
turn_once k j (GuestIdle ∷ two ∷ []) turn = switch_once k j two turn.1
turn_once k j (_ ∷ two ∷ []) turn = absurd turn.0
turn_once k j [] turn = absurd turn
turn_once k j (one ∷ []) turn = absurd turn
turn_once k j (one ∷ two ∷ three ∷ events) turn = absurd turn

pub unsticks : (k : ℕ) → LaneUnsticks ports of_ports k (port_stuck k) (port_blocked k) moves
unsticks k = record {
  moving = port_moves;
  most = stuck_most k;
  or_none = still_or_none k;
  turn = turn_once k;
  tick = λ j s. refl;
  left = λ j. refl;
  answer = refl;
}

pub all_unstick : (k : ℕ) → Unsticks two_switches (port_stuck k) (port_blocked k) moves
all_unstick k =
    first_unsticks (lanes_of ports of_ports) (lanes_of ports of_twins) (port_stuck k) (port_blocked k) moves
    (lanes_unstick ports of_ports k (port_stuck k) (port_blocked k) moves (unsticks k)) (lanes_move ports of_twins moves twin_moves)
    (lanes_ignore ports of_twins (port_blocked k) (λ j event. refl) (λ j. refl))

pub never_three : (start : Two (List Port) (List Port)) (part : List WorldEntry) (behind : Two (List Port) (List Port)) (k : ℕ) → SettlePart two_switches start part behind
    → NeverThree (port_stuck k) 0 part
never_three start part behind k settle = part_never two_switches (port_stuck k) (port_blocked k) moves (all_unstick k) start part behind settle

-- NAMES: a port waits behind its tick, as its guest's end isn't up
tick_waits : TickWaits ports WayHasRoom
tick_waits s t at waits step = subst (λ (x : Port). port_waits x ≡ true) (sym step) refl

named : Names two_switches (BothStand (EachMarked Whole) (EachMarked Whole))
named =
    both_name (lanes_of ports of_ports) (lanes_of ports of_twins) (EachMarked Whole) (EachMarked Whole)
    (lanes_name ports of_ports WayHasRoom IsUnforged IsLossless port_rests tick_waits) (lanes_name ports of_twins WayHasRoom IsUnforged IsLossless port_rests tick_waits)

pub some_named : (start : Two (List Port) (List Port)) (part : List WorldEntry) (behind : Two (List Port) (List Port)) (out : RunsOut two_switches start part behind)
    → BothHold (EachOf WayHasRoom) (EachOf WayHasRoom) start → 1 ≤ length (two_switches.names out.last.steps behind)
some_named start part behind out rooms = out_names two_switches (BothStand (EachMarked Whole) (EachMarked Whole)) keeps named start part behind out (begins start rooms)
