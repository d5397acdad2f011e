-- In a settle of a switch each port has one tick at most, and no end is stuck three times with nothing else between. Each round that goes on
-- moves something.
use Rattle.std.proofs.Common.{◌≡◌, ◌⊎◌, inl, inr, ℕ, ◌+◌, ◌≤◌, Bool, true, false, List, [], ◌∷◌, refl, ap, arith}
use Rattle.std.specs.Prelude.{◌==◌, ◌&&◌}
use Rattle.ldc_queue.specs.declared.end.End.{End}
use Rattle.ldc_queue.specs.declared.end.End.TheVariants.{A, B}
use Rattle.lane_kinds.proofs.Counting.{out_moves, part_counted}
use Rattle.lane_kinds.proofs.LaneCounts.{lanes_move, lanes_tick, lanes_unstick}
use Rattle.lane_kinds.proofs.Stuck.{part_never}
use Rattle.lane_kinds.specs.LaneCounts.{LaneMoves, LaneTicks, LaneUnsticks, mark_at, once}
use Rattle.lane_kinds.specs.Lanes.{turn_entries}
use Rattle.lane_kinds.specs.Settles.{RunsOut, SettlePart, most_rounds}
use Rattle.lane_kinds.specs.Stuck.{NeverThree, sum_over}
use Rattle.port_laws.specs.NetEndStep.{Blocked, Idle}
use Rattle.port_laws.specs.NetEvent.{Steps}
use Rattle.port_laws.specs.PortState.{OnLane, PortState}
use Rattle.switch_laws.specs.Events.{OnPort, SwitchEvent, Switched}
use Rattle.switch_laws.specs.PortCounts.{is_end, moves, port_blocked, port_stuck, port_ticks, stuck_on}
use Rattle.switch_laws.specs.Ports.{IsStepOf, IsTurn, OfPort, SwitchEntry, is_calm, of_ports, ports, switch}
use Rattle.switch_laws.proofs.PortTurns.{silent_calm, turn_steps}

-- WHAT MOVES
loud_moves : (k : ℕ) (event : SwitchEvent) → is_calm event ≡ false → 1 ≤ moves (OfPort k event)
loud_moves k (OnPort (OnLane (Steps e Blocked))) is = absurd (cc is)
loud_moves k _ is = omega (arith)

pub port_moves : LaneMoves ports of_ports moves
port_moves = record { silent_calm = silent_calm; loud = loud_moves; tick = λ k s. omega (arith) }

pub runs_out_moving : (start : List PortState) (part : List SwitchEntry) (behind : List PortState) → RunsOut switch start part behind
    → most_rounds switch start ≤ sum_over moves part
runs_out_moving start part behind out = out_moves switch (sum_over moves) (lanes_move ports of_ports moves port_moves) start part behind out

-- TICKS of a port
step_none : (k j : ℕ) (event : SwitchEvent) → (e : End) × IsStepOf e event → port_ticks k (OfPort j event) ≡ 0
step_none k j (OnPort (OnLane (Steps e answer))) own = refl
step_none k j (Switched frame out full) own = refl
step_none k j _ own = absurd own.1

pub ticks : LaneTicks ports of_ports port_ticks
ticks = record { turn_steps = turn_steps; step = step_none; tick = λ k j s. refl; left = λ k j. refl; answer = λ k. refl }

pub one_tick : (start : List PortState) (part : List SwitchEntry) (behind : List PortState) (k : ℕ) → SettlePart switch start part behind → sum_over (port_ticks k) part ≤ 1
one_tick start part behind k settle = part_counted switch (sum_over (port_ticks k)) (mark_at k 0) (lanes_tick ports of_ports port_ticks ticks k) start part behind settle

-- AN END THAT FINDS NO ROOM
counted : (c : Bool) (n : ℕ) → stuck_on c n ≤ n + once c
counted true n = omega (arith)
counted false n = omega (arith)

stuck_most : (k : ℕ) (e : End) (n : ℕ) (x : SwitchEntry) → port_stuck k e n x ≤ n + port_blocked k e x
stuck_most k e n (OfPort j (OnPort (OnLane (Steps d Blocked)))) = counted ((j == k) && is_end d e) n
stuck_most k e n _ = omega (arith)

still_or_none : (k : ℕ) (e : End) (x : SwitchEntry) → (moves x ≡ 0) ⊎ ((n : ℕ) → port_stuck k e n x ≡ 0)
still_or_none k e (OfPort j (OnPort (OnLane (Steps d Blocked)))) = inl refl
still_or_none k e _ = inr (λ n. refl)

-- of two steps, one of each end, at most one is the end's
either : (c : Bool) (e : End) → once (c && is_end A e) + once (c && is_end B e) ≤ once c
either true A = omega (arith)
either true B = omega (arith)
either false A = omega (arith)
either false B = omega (arith)

step_once : (k : ℕ) (e d : End) (j : ℕ) (event : SwitchEvent) (events : List SwitchEvent) → IsStepOf d event
    → sum_over (port_blocked k e) (turn_entries ports of_ports j (event ∷ events)) ≤ once ((j == k) && is_end d e) + sum_over (port_blocked k e) (turn_entries ports of_ports j events)
step_once k e d j (OnPort (OnLane (Steps c Blocked))) events own =
    let same : is_end c e ≡ is_end d e = ap (λ (x : End). is_end x e) own in
    omega (arith, ap (λ (b : Bool). once ((j == k) && b)) same)
step_once k e d j (OnPort (OnLane (Steps c Idle))) events own = omega (arith)
step_once k e d j (OnPort (OnLane (Steps c answer))) events own = omega (arith)
step_once k e d j (Switched frame out full) events own = omega (arith)
step_once k e d j _ events own = absurd own

turn_once : (k : ℕ) (e : End) (j : ℕ) (events : List SwitchEvent) → IsTurn events → sum_over (port_blocked k e) (turn_entries ports of_ports j events) ≤ once (j == k)
turn_once k e j (one ∷ two ∷ []) turn =
    omega (arith, step_once k e A j one (two ∷ []) turn.0, step_once k e B j two [] turn.1, either (j == k) e)
turn_once k e j [] turn = absurd turn
turn_once k e j (one ∷ []) turn = absurd turn
turn_once k e j (one ∷ two ∷ three ∷ events) turn = absurd turn

pub unsticks : (k : ℕ) (e : End) → LaneUnsticks ports of_ports k (port_stuck k e) (port_blocked k e) moves
unsticks k e = record {
  moving = port_moves;
  most = stuck_most k e;
  or_none = still_or_none k e;
  turn = turn_once k e;
  tick = λ j s. refl;
  left = λ j. refl;
  answer = refl;
}

pub never_three : (start : List PortState) (part : List SwitchEntry) (behind : List PortState) (k : ℕ) (e : End) → SettlePart switch start part behind
    → NeverThree (port_stuck k e) 0 part
never_three start part behind k e settle =
    part_never switch (port_stuck k e) (port_blocked k e) moves (lanes_unstick ports of_ports k (port_stuck k e) (port_blocked k e) moves (unsticks k e)) start part behind settle
