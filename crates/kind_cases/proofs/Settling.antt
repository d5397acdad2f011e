-- Two switches beside each other end settled.
use Rattle.std.proofs.Common.{◌≡◌, ℕ, ◌+◌, ◌*◌, ◌≤◌, ◌<◌, Bool, refl, List, [], ◌∷◌, length, arith}
use Rattle.lane_kinds.proofs.Both.{both_fall, both_keep, first_ends, first_ends_with, first_leads, second_ends, second_ends_with, second_leads}
use Rattle.lane_kinds.proofs.Falling.{ends_settled}
use Rattle.lane_kinds.proofs.Finishing.{IsWhole, all_rest, lanes_keep, whole_fresh}
use Rattle.lane_kinds.proofs.Lanes.{lanes_fall}
use Rattle.lane_kinds.proofs.Leading.{part_leads}
use Rattle.lane_kinds.proofs.Moving.{lanes_end, lanes_lead, lanes_skip}
use Rattle.lane_kinds.proofs.Standing.{ends_with}
use Rattle.lane_kinds.specs.Both.{BothHold, BothStand, OnFirst, OnSecond, Two}
use Rattle.lane_kinds.specs.Lanes.{AllMove, AreClean, EachMarked, EachOf, IsLaneAtRest, Reads, lanes_of, sum_of}
use Rattle.lane_kinds.specs.Laws.{AnswersLead, Falls, KeepsStanding, Leads}
use Rattle.lane_kinds.specs.Settles.{EndsWith, SettlePart, Settles, most_rounds}
use Rattle.kind_cases.proofs.PortLaws.{port_bound, port_falls, port_rests, port_silence}
use Rattle.kind_cases.specs.Ports.{WayHasRoom, IsClean, IsLossless, IsUnforged, Port, port_raises, port_remaining, ports}
use Rattle.kind_cases.specs.World.{WorldEntry, of_ports, of_twins, said_port, said_twin, two_switches}

abbrev pub Whole : Port → Bool → Type 0
Whole = IsWhole ports WayHasRoom IsUnforged IsLossless port_rests

abbrev Clean : List Port → Type 0
Clean = AreClean IsClean

falls : Falls two_switches (BothHold Clean Clean) (λ w. sum_of port_remaining w.first + sum_of port_remaining w.second)
falls =
    both_fall (lanes_of ports of_ports) (lanes_of ports of_twins) Clean Clean (sum_of port_remaining) (sum_of port_remaining)
    (lanes_fall ports IsClean port_remaining port_raises port_falls of_ports) (lanes_fall ports IsClean port_remaining port_raises port_falls of_twins)

one_bound : (a b n m p q : ℕ) → m ≡ n + 1 → a ≤ 3 + 16 * p → b ≤ 3 * n + 16 * q → a + b ≤ 3 * m + 16 * (p + q)
one_bound a b n m p q long one more = omega (arith, long, one, more)

bounds : (lanes : List Port) → sum_of port_remaining lanes ≤ 3 * length lanes + 16 * sum_of ports.pending lanes
bounds [] = omega (arith)
bounds (s ∷ lanes) =
    one_bound (port_remaining s) (sum_of port_remaining lanes) (length lanes) (length (s ∷ lanes)) (ports.pending s) (sum_of ports.pending lanes) (omega (arith)) (port_bound s) (bounds lanes)

within : (a b n m p q : ℕ) → a ≤ 3 * n + 16 * p → b ≤ 3 * m + 16 * q → n ≤ 8 → m ≤ 8 → a + b < 4096 + 64 * (p + q)
within a b n m p q one two few less = omega (arith, one, two, few, less)

pub clean_few : (start : Two (List Port) (List Port)) → BothHold Clean Clean start → sum_of port_remaining start.first + sum_of port_remaining start.second < most_rounds two_switches start
clean_few start at =
    within (sum_of port_remaining start.first) (sum_of port_remaining start.second) (length start.first) (length start.second) (sum_of ports.pending start.first)
    (sum_of ports.pending start.second) (bounds start.first) (bounds start.second) at.of_first.few at.of_second.few

pub two_settle : (start : Two (List Port) (List Port)) (part : List WorldEntry) (behind : Two (List Port) (List Port)) → BothHold (AreClean IsClean) (AreClean IsClean) start
    → SettlePart two_switches start part behind → Settles two_switches start part behind
two_settle start part behind at settle =
    ends_settled two_switches (BothHold Clean Clean) (λ w. sum_of port_remaining w.first + sum_of port_remaining w.second) falls start part behind at (clean_few start at) settle

-- BEHIND IT each port is finished, or was forged and had its tick
pub keeps : KeepsStanding two_switches (BothStand (EachMarked Whole) (EachMarked Whole))
keeps =
    both_keep (lanes_of ports of_ports) (lanes_of ports of_twins) (EachMarked Whole) (EachMarked Whole)
    (lanes_keep ports WayHasRoom IsUnforged IsLossless port_rests of_ports) (lanes_keep ports WayHasRoom IsUnforged IsLossless port_rests of_twins)

pub begins : (start : Two (List Port) (List Port)) → BothHold (EachOf WayHasRoom) (EachOf WayHasRoom) start
    → BothStand (EachMarked Whole) (EachMarked Whole) start (two_switches.unmarked start)
begins start at = record {
  of_first = whole_fresh ports WayHasRoom IsUnforged IsLossless port_rests start.first at.of_first;
  of_second = whole_fresh ports WayHasRoom IsUnforged IsLossless port_rests start.second at.of_second;
}

pub two_rest : (start : Two (List Port) (List Port)) (part : List WorldEntry) (behind : Two (List Port) (List Port)) (at : Settles two_switches start part behind)
    → BothHold (EachOf WayHasRoom) (EachOf WayHasRoom) start → BothStand (EachMarked (IsLaneAtRest ports IsUnforged)) (EachMarked (IsLaneAtRest ports IsUnforged)) behind at.now.marks
two_rest start part behind at rooms =
    let last : EndsWith two_switches (BothStand (EachMarked Whole) (EachMarked Whole)) behind at.now.marks =
    ends_with two_switches (BothStand (EachMarked Whole) (EachMarked Whole)) keeps start part behind at (begins start rooms) in
    record {
      of_first = all_rest ports WayHasRoom IsUnforged IsLossless port_rests of_ports behind.first at.now.marks.first
          (first_ends_with (lanes_of ports of_ports) (lanes_of ports of_twins) (EachMarked Whole) (EachMarked Whole) behind at.now.marks last);
      of_second = all_rest ports WayHasRoom IsUnforged IsLossless port_rests of_twins behind.second at.now.marks.second
          (second_ends_with (lanes_of ports of_ports) (lanes_of ports of_twins) (EachMarked Whole) (EachMarked Whole) behind at.now.marks last);
    }

-- EACH PORT is run by what the part says happened to it
pub port_reads : Reads ports of_ports said_port
port_reads = record { of_lane = λ j k event. refl; of_left = λ j k. refl; of_answer = λ j. refl }

pub twin_reads : Reads ports of_twins said_twin
twin_reads = record { of_lane = λ j k event. refl; of_left = λ j k. refl; of_answer = λ j. refl }

pub ports_lead : Leads two_switches (OnFirst (AllMove ports.Step said_port 0))
ports_lead =
    first_leads (lanes_of ports of_ports) (lanes_of ports of_twins) (AllMove ports.Step said_port 0) (lanes_lead ports of_ports said_port port_reads port_silence)
    (lanes_skip ports.Step said_port ports of_twins (λ j k event. refl) (λ j k. refl))

pub ports_end : AnswersLead two_switches (OnFirst (AllMove ports.Step said_port 0))
ports_end =
    first_ends (lanes_of ports of_ports) (lanes_of ports of_twins) (AllMove ports.Step said_port 0) (lanes_lead ports of_ports said_port port_reads port_silence)
    (lanes_skip ports.Step said_port ports of_twins (λ j k event. refl) (λ j k. refl)) (lanes_end ports of_ports said_port port_reads port_silence)

pub twins_lead : Leads two_switches (OnSecond (AllMove ports.Step said_twin 0))
twins_lead =
    second_leads (lanes_of ports of_ports) (lanes_of ports of_twins) (AllMove ports.Step said_twin 0) (lanes_lead ports of_twins said_twin twin_reads port_silence)
    (lanes_skip ports.Step said_twin ports of_ports (λ j k event. refl) (λ j k. refl))

pub twins_end : AnswersLead two_switches (OnSecond (AllMove ports.Step said_twin 0))
twins_end =
    second_ends (lanes_of ports of_ports) (lanes_of ports of_twins) (AllMove ports.Step said_twin 0) (lanes_lead ports of_twins said_twin twin_reads port_silence)
    (lanes_skip ports.Step said_twin ports of_ports (λ j k event. refl) (λ j k. refl)) (lanes_end ports of_twins said_twin twin_reads port_silence) refl

pub ports_move : (start : Two (List Port) (List Port)) (part : List WorldEntry) (behind : Two (List Port) (List Port)) → SettlePart two_switches start part behind
    → AllMove ports.Step said_port 0 start.first part behind.first
ports_move start part behind settle = part_leads two_switches (OnFirst (AllMove ports.Step said_port 0)) ports_lead ports_end start part behind settle

pub twins_move : (start : Two (List Port) (List Port)) (part : List WorldEntry) (behind : Two (List Port) (List Port)) → SettlePart two_switches start part behind
    → AllMove ports.Step said_twin 0 start.second part behind.second
twins_move start part behind settle = part_leads two_switches (OnSecond (AllMove ports.Step said_twin 0)) twins_lead twins_end start part behind settle
