-- A settle over the ports of a switch that nobody forged ends settled; behind one that does each port is finished, or was forged and had its
-- tick.
use Rattle.std.proofs.Common.{◌≡◌, ℕ, ◌+◌, ◌*◌, ◌<◌, ◌≤◌, Bool, List, [], ◌∷◌, length, arith}
use Rattle.lane_kinds.proofs.Falling.{ends_settled}
use Rattle.lane_kinds.proofs.Finishing.{IsWhole, all_rest, lanes_keep, whole_fresh}
use Rattle.lane_kinds.proofs.LaneCounts.{lanes_name}
use Rattle.lane_kinds.proofs.Lanes.{lanes_fall}
use Rattle.lane_kinds.proofs.Naming.{out_names}
use Rattle.lane_kinds.proofs.Standing.{ends_with}
use Rattle.lane_kinds.specs.Lanes.{AreClean, EachMarked, EachOf, IsLaneAtRest, sum_of}
use Rattle.lane_kinds.specs.Laws.{KeepsStanding}
use Rattle.lane_kinds.specs.Settles.{RunsOut, SettlePart, Settles}
use Rattle.port_laws.specs.PortState.{PortState}
use Rattle.switch_laws.specs.Ports.{SwitchEntry, of_ports, pending, ports, switch}
use Rattle.switch_laws.specs.Reached.{IsClean, IsLossless, IsReached, IsUnforged}
use Rattle.switch_laws.specs.Remaining.{port_raises, port_remaining}
use Rattle.switch_laws.proofs.Falling.{port_bound, port_falls}
use Rattle.switch_laws.proofs.Resting.{port_rests, tick_waits}

abbrev Whole : PortState → Bool → Type 0
Whole = IsWhole ports IsReached IsUnforged IsLossless port_rests

-- THE SUM over at most eight ports
one_bound : (a b n m p q : ℕ) → m ≡ n + 1 → a ≤ 189 + 64 * p → b ≤ 189 * n + 64 * q → a + b ≤ 189 * m + 64 * (p + q)
one_bound a b n m p q long one more = omega (arith, long, one, more)

pub ports_bound : (lanes : List PortState) → EachOf IsClean lanes → sum_of port_remaining lanes ≤ 189 * length lanes + 64 * sum_of pending lanes
ports_bound [] clean = omega (arith)
ports_bound (s ∷ lanes) clean =
    one_bound (port_remaining s) (sum_of port_remaining lanes) (length lanes) (length (s ∷ lanes)) (pending s) (sum_of pending lanes) (omega (arith)) (port_bound s clean.0) (ports_bound lanes clean.1)

within : (a n p : ℕ) → a ≤ 189 * n + 64 * p → n ≤ 8 → a < 4096 + 64 * p
within a n p most few = omega (arith, most, few)

pub switch_settles : (start : List PortState) (part : List SwitchEntry) (behind : List PortState) → AreClean IsClean start → SettlePart switch start part behind → Settles switch start part behind
switch_settles start part behind at settle =
    ends_settled switch (AreClean IsClean) (sum_of port_remaining) (lanes_fall ports IsClean port_remaining port_raises port_falls of_ports) start part behind at
    (within (sum_of port_remaining start) (length start) (sum_of pending start) (ports_bound start at.clean) at.few) settle

-- BEHIND IT
keeps : KeepsStanding switch (EachMarked Whole)
keeps = lanes_keep ports IsReached IsUnforged IsLossless port_rests of_ports

pub switch_rests : (start : List PortState) (part : List SwitchEntry) (behind : List PortState) (at : Settles switch start part behind) → EachOf IsReached start
    → EachMarked (IsLaneAtRest ports IsUnforged) behind at.now.marks
switch_rests start part behind at reached =
    all_rest ports IsReached IsUnforged IsLossless port_rests of_ports behind at.now.marks
    (ends_with switch (EachMarked Whole) keeps start part behind at (whole_fresh ports IsReached IsUnforged IsLossless port_rests start reached))

-- OR NOT: some port is named
pub some_named : (start : List PortState) (part : List SwitchEntry) (behind : List PortState) (out : RunsOut switch start part behind) → EachOf IsReached start
    → 1 ≤ length (switch.names out.last.steps behind)
some_named start part behind out reached =
    out_names switch (EachMarked Whole) keeps (lanes_name ports of_ports IsReached IsUnforged IsLossless port_rests tick_waits) start part behind out
    (whole_fresh ports IsReached IsUnforged IsLossless port_rests start reached)
