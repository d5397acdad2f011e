-- In a settle over disks and ports no end is stuck three times with nothing but Blocked between. Where the rounds run out each left something
-- that moves, and some lane is named.
use Rattle.std.proofs.Common.{◌≡◌, ◌⊎◌, inl, inr, ℕ, ◌+◌, ◌≤◌, Bool, true, false, List, [], ◌∷◌, ◌++◌, length, refl, sym, ap, subst, arith}
use Rattle.std.specs.Prelude.{◌==◌, ◌&&◌, if◌then◌else◌}
use Rattle.lane_models.specs.WireEvent as wire
use Rattle.lane_models.specs.DiskEvent.{DiskEvent, OnWire}
use Rattle.lane_models.specs.Reached as disk
use Rattle.ldc_queue.specs.declared.end.End.{End}
use Rattle.lane_kinds.proofs.Both.{both_move, both_name, first_unsticks, second_unsticks}
use Rattle.lane_kinds.proofs.BothFronts.{first_fronts_unstick, lanes_ignore_fronts, second_fronts_unstick}
use Rattle.lane_kinds.proofs.Counting.{out_moves, rounds_move}
use Rattle.lane_kinds.proofs.LaneCounts.{lanes_ignore, lanes_move, lanes_name, lanes_unstick}
use Rattle.lane_kinds.proofs.LaneFronts.{fronts_unstick}
use Rattle.lane_kinds.proofs.Naming.{out_names}
use Rattle.lane_kinds.proofs.Stuck.{front_never, part_never}
use Rattle.lane_kinds.specs.LaneCounts.{LaneMoves, LaneUnsticks, once}
use Rattle.lane_kinds.specs.Lanes.{EachMarked, turn_entries}
use Rattle.lane_kinds.specs.Laws.{Moves}
use Rattle.lane_kinds.specs.Settles.{GoesOn, RunsOut, SettlePart, SettleRound, Settling, entries_of_rounds, most_rounds}
use Rattle.lane_kinds.specs.Both.{Two}
use Rattle.lane_kinds.specs.Fronts.{SettleFront}
use Rattle.lane_kinds.specs.LaneFronts.{fronts_of}
use Rattle.runs.specs.Run.{Run}
use Rattle.lane_kinds.specs.Stuck.{NeverThree, sum_over}
use Rattle.lane_models.specs.NetEndStep.{Blocked}
use Rattle.lane_models.specs.NetEvent.{Steps}
use Rattle.lane_models.specs.PortState.{OnLane}
use Rattle.switch_laws.proofs.Counting as switch_counts
use Rattle.switch_laws.proofs.Resting as port_resting
use Rattle.switch_laws.proofs.PortTurns.{silent_calm, turn_steps}
use Rattle.switch_laws.specs.Events.{OnPort, SwitchEvent}
use Rattle.switch_laws.specs.PortCounts as port_counts
use Rattle.switch_laws.specs.Ports.{IsTurn, is_calm, is_silent, of_ports, ports}
use Rattle.switch_laws.specs.Ports as switch_ports
use Rattle.switch_laws.specs.Reached as port
use Rattle.world_laws.proofs.Behind as behind_disks
use Rattle.world_laws.proofs.Counts.{blocked, still_or_none, stuck_most}
use Rattle.world_laws.proofs.DiskLaws.{IsLossless, disk_moves, disk_rests, disk_unsticks, tick_waits}
use Rattle.world_laws.proofs.DiskLaws as disk_laws
use Rattle.world_laws.specs.Begun.{fronts as disk_fronts}
use Rattle.world_laws.specs.Rounds.{LaneRound}
use Rattle.world_laws.specs.DiskKind.{disk_kind}
use Rattle.world_laws.specs.Settle.{OfLane, OfPort, SettleEntry, disk_entries, disks}
use Rattle.world_laws.specs.Sums as forging
use Rattle.domain_laws.specs.Counts.{disk_stuck, is_blocked, moves, moves_in, port_blocked, port_stuck}
use Rattle.domain_laws.specs.Lines.{fronts}
use Rattle.domain_laws.specs.Domain.{Lanes, lanes, port_entries, switch}
use Rattle.domain_laws.specs.Settling.{AreReached}
use Rattle.domain_laws.proofs.Resting.{Stand, WholePort, begins, keeps}

-- WHAT MOVES
disk_moving : LaneMoves disk_kind disk_entries moves
disk_moving = record { silent_calm = disk_moves.silent_calm; loud = disk_moves.loud; tick = disk_moves.tick }

loud_moves : (k : ℕ) (event : SwitchEvent) → is_calm event ≡ false → 1 ≤ moves (OfPort k event)
loud_moves k (OnPort (OnLane (Steps e Blocked))) is = absurd (cc is)
loud_moves k _ is = omega (arith)

port_moving : LaneMoves ports port_entries moves
port_moving = record { silent_calm = silent_calm; loud = loud_moves; tick = λ k s. omega (arith) }

disks_moving : Moves disks moves_in
disks_moving = lanes_move disk_kind disk_entries moves disk_moving

ports_moving : Moves switch moves_in
ports_moving = lanes_move ports port_entries moves port_moving

pub runs_out_moving : (start : Lanes) (part : List SettleEntry) (behind : Lanes) → RunsOut lanes start part behind → most_rounds lanes start ≤ moves_in part
runs_out_moving start part behind out = out_moves lanes moves_in (both_move disks switch moves_in disks_moving ports_moving) start part behind out

pub made_move : (w : Settling Lanes (Two (List Bool) (List Bool))) (rounds : List (SettleRound (Two (List LaneRound) (List (List SwitchEvent))) SettleEntry))
    (v : Settling Lanes (Two (List Bool) (List Bool))) → Run (GoesOn lanes) w rounds v → length rounds ≤ moves_in (entries_of_rounds rounds)
made_move w rounds v run = rounds_move lanes moves_in (both_move disks switch moves_in disks_moving ports_moving) w rounds v run

pub some_named : (start : Lanes) (part : List SettleEntry) (behind : Lanes) (out : RunsOut lanes start part behind) → AreReached start → 1 ≤ length (lanes.names out.last.steps behind)
some_named start part behind out reached =
    out_names lanes Stand keeps
    (both_name disks switch behind_disks.Stands (EachMarked WholePort) (lanes_name disk_kind disk_entries disk.IsReached forging.IsUnforged IsLossless disk_rests tick_waits)
    (lanes_name ports port_entries port.IsReached port.IsUnforged port.IsLossless port_resting.port_rests port_resting.tick_waits)) start part behind out (begins start reached)

-- AN END OF A DISK that finds no room
if_most : (c : Bool) (n : ℕ) → (if c then n else 0) ≤ n + 0
if_most true n = omega (arith)
if_most false n = omega (arith)

disk_most : (k : ℕ) (e : End) (n : ℕ) (x : SettleEntry) → disk_stuck k e n x ≤ n + blocked k e x
disk_most k e n (OfPort j event) = if_most (is_blocked event) n
disk_most k e n (OfLane j event) = stuck_most k e n (OfLane j event)
disk_most k e n _ = omega (arith)

abbrev one_unless : Bool → ℕ
one_unless c = if c then 0 else 1

abbrev all_if : Bool → ℕ → ℕ
all_if c n = if c then n else 0

either : (c : Bool) → (one_unless c ≡ 0) ⊎ ((n : ℕ) → all_if c n ≡ 0)
either true = inl refl
either false = inr (λ n. refl)

disk_or_none : (k : ℕ) (e : End) (x : SettleEntry) → (moves x ≡ 0) ⊎ ((n : ℕ) → disk_stuck k e n x ≡ 0)
disk_or_none k e (OfPort j event) = either (is_blocked event)
disk_or_none k e (OfLane j event) = still_or_none k e (OfLane j event)
disk_or_none k e _ = inl refl

disk_sticks : (k : ℕ) (e : End) → LaneUnsticks disk_kind disk_entries k (disk_stuck k e) (blocked k e) moves
disk_sticks k e =
    let laws = disk_unsticks k e in
    record { moving = disk_moving; most = disk_most k e; or_none = disk_or_none k e; turn = laws.turn; tick = laws.tick; left = laws.left; answer = laws.answer }

pub disk_never : (start : Lanes) (part : List SettleEntry) (behind : Lanes) (k : ℕ) (e : End) → SettlePart lanes start part behind → NeverThree (disk_stuck k e) 0 part
disk_never start part behind k e settle =
    part_never lanes (disk_stuck k e) (blocked k e) moves
    (first_unsticks disks switch (disk_stuck k e) (blocked k e) moves (lanes_unstick disk_kind disk_entries k (disk_stuck k e) (blocked k e) moves (disk_sticks k e)) ports_moving
    (lanes_ignore ports port_entries (blocked k e) (λ j event. refl) (λ j. refl))) start part behind settle

-- AN END OF A PORT
still_most : (n : ℕ) → n ≤ n + 0
still_most n = omega (arith)

port_most : (k : ℕ) (e : End) (n : ℕ) (x : SettleEntry) → port_stuck k e n x ≤ n + port_blocked k e x
port_most k e n (OfPort j event) = (switch_counts.unsticks k e).most n (switch_ports.OfPort j event)
port_most k e n (OfLane j (OnWire (wire.Blocked d))) = still_most n
port_most k e n _ = omega (arith)

event_or_none : (k : ℕ) (e : End) (j : ℕ) (event : SwitchEvent) → (moves (OfPort j event) ≡ 0) ⊎ ((n : ℕ) → port_stuck k e n (OfPort j event) ≡ 0)
event_or_none k e j (OnPort (OnLane (Steps d Blocked))) = inl refl
event_or_none k e j _ = inr (λ n. refl)

port_or_none : (k : ℕ) (e : End) (x : SettleEntry) → (moves x ≡ 0) ⊎ ((n : ℕ) → port_stuck k e n x ≡ 0)
port_or_none k e (OfPort j event) = event_or_none k e j event
port_or_none k e (OfLane j (OnWire (wire.Blocked d))) = inl refl
port_or_none k e _ = inr (λ n. refl)

-- the entries of a turn count as they do on the switch
one_sum : (k : ℕ) (e : End) (j : ℕ) (event : SwitchEvent) (c : Bool) (rest : List SettleEntry) (others : List switch_ports.SwitchEntry)
    → sum_over (port_blocked k e) rest ≡ sum_over (port_counts.port_blocked k e) others
    → sum_over (port_blocked k e) ((if c then [] else OfPort j event ∷ []) ++ rest) ≡ sum_over (port_counts.port_blocked k e) ((if c then [] else switch_ports.OfPort j event ∷ []) ++ others)
one_sum k e j event true rest others same = same
one_sum k e j event false rest others same = ap (λ (n : ℕ). port_counts.port_blocked k e (switch_ports.OfPort j event) + n) same

turn_sum : (k : ℕ) (e : End) (j : ℕ) (events : List SwitchEvent) → sum_over (port_blocked k e) (turn_entries ports port_entries j events) ≡ sum_over (port_counts.port_blocked k e) (turn_entries ports of_ports j events)
turn_sum k e j [] = refl
turn_sum k e j (event ∷ events) = one_sum k e j event (is_silent event) (turn_entries ports port_entries j events) (turn_entries ports of_ports j events) (turn_sum k e j events)

port_sticks : (k : ℕ) (e : End) → LaneUnsticks ports port_entries k (port_stuck k e) (port_blocked k e) moves
port_sticks k e = record {
  moving = port_moving;
  most = port_most k e;
  or_none = port_or_none k e;
  turn = λ j events turn. subst (λ (n : ℕ). n ≤ once (j == k)) (sym (turn_sum k e j events)) ((switch_counts.unsticks k e).turn j events turn);
  tick = λ j s. refl;
  left = λ j. refl;
  answer = refl;
}

pub port_never : (start : Lanes) (part : List SettleEntry) (behind : Lanes) (k : ℕ) (e : End) → SettlePart lanes start part behind → NeverThree (port_stuck k e) 0 part
port_never start part behind k e settle =
    part_never lanes (port_stuck k e) (port_blocked k e) moves
    (second_unsticks disks switch (port_stuck k e) (port_blocked k e) moves (lanes_unstick ports port_entries k (port_stuck k e) (port_blocked k e) moves (port_sticks k e)) disks_moving
    (lanes_ignore disk_kind disk_entries (port_blocked k e) (λ j event. refl) (λ j. refl)) refl) start part behind settle

-- in a front of a settle
pub disk_never_begun : (start : Lanes) (part : List SettleEntry) (behind : Lanes) (k : ℕ) (e : End) → SettleFront lanes fronts start part behind → NeverThree (disk_stuck k e) 0 part
disk_never_begun start part behind k e at =
    let laws = lanes_unstick disk_kind disk_entries k (disk_stuck k e) (blocked k e) moves (disk_sticks k e) in
    front_never lanes (disk_stuck k e) (blocked k e) moves
    (first_unsticks disks switch (disk_stuck k e) (blocked k e) moves laws ports_moving (lanes_ignore ports port_entries (blocked k e) (λ j event. refl) (λ j. refl))) fronts
    (first_fronts_unstick disks switch disk_fronts (fronts_of ports port_entries) (disk_stuck k e) (blocked k e) moves laws
    (fronts_unstick disk_kind disk_entries k (disk_stuck k e) (blocked k e) moves (disk_sticks k e))
    (lanes_ignore_fronts ports port_entries turn_steps (blocked k e) (λ j event. refl))) start part behind at

pub port_never_begun : (start : Lanes) (part : List SettleEntry) (behind : Lanes) (k : ℕ) (e : End) → SettleFront lanes fronts start part behind → NeverThree (port_stuck k e) 0 part
port_never_begun start part behind k e at =
    let ignores = lanes_ignore disk_kind disk_entries (port_blocked k e) (λ j event. refl) (λ j. refl) in
    front_never lanes (port_stuck k e) (port_blocked k e) moves
    (second_unsticks disks switch (port_stuck k e) (port_blocked k e) moves (lanes_unstick ports port_entries k (port_stuck k e) (port_blocked k e) moves (port_sticks k e)) disks_moving
    ignores refl) fronts
    (second_fronts_unstick disks switch disk_fronts (fronts_of ports port_entries) (port_blocked k e)
    (fronts_unstick ports port_entries k (port_stuck k e) (port_blocked k e) moves (port_sticks k e)) ignores
    (lanes_ignore_fronts disk_kind disk_entries disk_laws.turn_steps (port_blocked k e) (λ j event. refl))) start part behind at
