-- A settle over disks and ports that nobody forged ends settled: each round that goes on lowers what remains on all of them together.
use Rattle.std.proofs.Common.{◌≡◌, ℕ, ◌+◌, ◌*◌, ◌≤◌, ◌<◌, List, [], ◌∷◌, length, refl, arith}
use Rattle.std.specs.Prelude.{⊤}
use Rattle.lane_models.specs.LaneState.{LaneState}
use Rattle.lane_kinds.proofs.Both.{both_fall}
use Rattle.lane_kinds.proofs.Falling.{ends_settled, rounds_few}
use Rattle.lane_kinds.proofs.Lanes.{lanes_fall}
use Rattle.lane_kinds.specs.Both.{BothHold}
use Rattle.lane_kinds.specs.Fronts.{SettleFront}
use Rattle.lane_kinds.specs.Lanes.{AreClean, EachOf, sum_of}
use Rattle.lane_kinds.specs.Laws.{Falls}
use Rattle.lane_kinds.specs.Settles.{SettlePart, Settles, most_rounds}
use Rattle.lane_models.specs.PortState.{PortState}
use Rattle.switch_laws.proofs.Falling.{port_falls}
use Rattle.switch_laws.proofs.Settling.{ports_bound}
use Rattle.switch_laws.specs.Ports.{pending, ports}
use Rattle.switch_laws.specs.Reached as port
use Rattle.switch_laws.specs.Remaining.{port_raises, port_remaining}
use Rattle.world_laws.proofs.Falling as disk
use Rattle.world_laws.specs.Settle.{SettleEntry, disks, pending_on}
use Rattle.world_laws.specs.Sums.{remaining_on}
use Rattle.domain_laws.specs.Domain.{Lanes, lanes, port_entries, switch}
use Rattle.domain_laws.specs.Lines.{fronts}
use Rattle.domain_laws.specs.Settling.{AreFew, AreReached, AreUnforged}

-- CLEAN LANES
each_clean : (lanes : List PortState) → EachOf port.IsReached lanes → EachOf port.IsUnforged lanes → EachOf port.IsClean lanes
each_clean [] reached unforged = tt
each_clean (s ∷ lanes) reached unforged = (record { reached = reached.0; unforged = unforged.0 }, each_clean lanes reached.1 unforged.1)

abbrev Clean : Lanes → Type 0
Clean = BothHold disk.AreClean (AreClean port.IsClean)

are_clean : (w : Lanes) → AreReached w → AreUnforged w → AreFew w → Clean w
are_clean w reached unforged few = record {
  of_first = disk.are_clean w.first reached.of_disks unforged.of_disks;
  of_second = record { few = few.of_ports; clean = each_clean w.second reached.of_ports unforged.of_ports };
}

-- WHAT REMAINS
abbrev pub all_remaining : Lanes → ℕ
all_remaining w = remaining_on w.first + sum_of port_remaining w.second

ports_fall : Falls switch (AreClean port.IsClean) (sum_of port_remaining)
ports_fall = lanes_fall ports port.IsClean port_remaining port_raises port_falls port_entries

falls : Falls lanes Clean all_remaining
falls = both_fall disks switch disk.AreClean (AreClean port.IsClean) remaining_on (sum_of port_remaining) disk.falls ports_fall

-- THE BOUND
sums : (a b n m p q : ℕ) → a ≤ 69 * n + 32 * p → b ≤ 189 * m + 64 * q → a + b ≤ (69 * n + 189 * m) + 64 * (p + q)
sums a b n m p q one two = omega (arith, one, two)

pub remains_most : (w : Lanes) → AreReached w → AreUnforged w → AreFew w → all_remaining w ≤ (69 * length w.first + 189 * length w.second) + 64 * lanes.pending w
remains_most w reached unforged few =
    let clean = are_clean w reached unforged few in
    sums (remaining_on w.first) (sum_of port_remaining w.second) (length w.first) (length w.second) (pending_on w.first) (sum_of pending w.second)
    (disk.remains_on_most w.first clean.of_first.clean) (ports_bound w.second clean.of_second.clean)

within : (all n m p : ℕ) → all ≤ (69 * n + 189 * m) + 64 * p → n ≤ 8 → m ≤ 8 → all < 4096 + 64 * p
within all n m p most disks ports = omega (arith, most, disks, ports)

pub settles : (start : Lanes) (part : List SettleEntry) (behind : Lanes) → AreReached start → AreUnforged start → AreFew start → SettlePart lanes start part behind → Settles lanes start part behind
settles start part behind reached unforged few settle =
    ends_settled lanes Clean all_remaining falls start part behind (are_clean start reached unforged few)
    (within (all_remaining start) (length start.first) (length start.second) (lanes.pending start) (remains_most start reached unforged few) few.of_disks few.of_ports) settle

-- and a front of a settle has fewer than the most rounds
pub begun_few : (start : Lanes) (part : List SettleEntry) (behind : Lanes) → AreReached start → AreUnforged start → AreFew start → (at : SettleFront lanes fronts start part behind)
    → length at.rounds < most_rounds lanes start
begun_few start part behind reached unforged few at =
    rounds_few lanes Clean all_remaining falls start at.rounds at.now (are_clean start reached unforged few)
    (within (all_remaining start) (length start.first) (length start.second) (lanes.pending start) (remains_most start reached unforged few) few.of_disks few.of_ports) at.run
