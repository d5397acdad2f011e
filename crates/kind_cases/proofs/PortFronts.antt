-- A front of a settle of two switches, where memory is wanted, says of each port what happened to it, and keeps the rules
-- of a settle.
use Rattle.std.proofs.Common.{ℕ, ◌≤◌, Bool, List, refl}
use Rattle.lane_kinds.proofs.BothFronts.{first_fronts_count, first_fronts_lead, first_fronts_unstick, lanes_ignore_fronts, lanes_skip_fronts, second_fronts_lead}
use Rattle.lane_kinds.proofs.Counting.{front_counted}
use Rattle.lane_kinds.proofs.LaneCounts.{lanes_tick, lanes_unstick}
use Rattle.lane_kinds.proofs.LaneFronts.{fronts_lead, fronts_tick, fronts_unstick}
use Rattle.lane_kinds.proofs.Leading.{front_leads}
use Rattle.lane_kinds.proofs.Moving.{lanes_lead, lanes_skip}
use Rattle.lane_kinds.proofs.Stuck as ends
use Rattle.lane_kinds.proofs.Stuck.{sum_both}
use Rattle.lane_kinds.specs.Both.{OnFirst, OnSecond, Two}
use Rattle.lane_kinds.specs.Fronts.{SettleFront}
use Rattle.lane_kinds.specs.LaneCounts.{mark_at}
use Rattle.lane_kinds.specs.LaneFronts.{fronts_of}
use Rattle.lane_kinds.specs.Lanes.{AllMove, lanes_of}
use Rattle.lane_kinds.specs.Stuck.{NeverThree, sum_over}
use Rattle.kind_cases.proofs.PortCounting.{all_unstick, ticks, ticks_counted, unsticks}
use Rattle.kind_cases.proofs.PortLaws.{port_silence, turn_steps}
use Rattle.kind_cases.proofs.Settling.{port_reads, ports_end, ports_lead, twin_reads, twins_end, twins_lead}
use Rattle.kind_cases.specs.PortCounts.{moves, port_blocked, port_stuck, port_ticks}
use Rattle.kind_cases.specs.Ports.{Port, ports}
use Rattle.kind_cases.specs.World.{WorldEntry, of_ports, of_twins, said_port, said_twin, two_fronts, two_switches}

pub ports_begun : (start : Two (List Port) (List Port)) (part : List WorldEntry) (behind : Two (List Port) (List Port)) → SettleFront two_switches two_fronts start part behind
    → AllMove ports.Step said_port 0 start.first part behind.first
ports_begun start part behind at =
    front_leads two_switches (OnFirst (AllMove ports.Step said_port 0)) ports_lead two_fronts
    (first_fronts_lead (lanes_of ports of_ports) (lanes_of ports of_twins) (fronts_of ports of_ports) (fronts_of ports of_twins) (AllMove ports.Step said_port 0)
    (lanes_lead ports of_ports said_port port_reads port_silence) (fronts_lead ports of_ports said_port port_reads port_silence)
    (lanes_skip_fronts ports of_twins turn_steps ports.Step said_port (λ j k event. refl))) ports_end start part behind at

pub twins_begun : (start : Two (List Port) (List Port)) (part : List WorldEntry) (behind : Two (List Port) (List Port)) → SettleFront two_switches two_fronts start part behind
    → AllMove ports.Step said_twin 0 start.second part behind.second
twins_begun start part behind at =
    front_leads two_switches (OnSecond (AllMove ports.Step said_twin 0)) twins_lead two_fronts
    (second_fronts_lead (lanes_of ports of_ports) (lanes_of ports of_twins) (fronts_of ports of_ports) (fronts_of ports of_twins) (AllMove ports.Step said_twin 0)
    (lanes_lead ports of_twins said_twin twin_reads port_silence) (fronts_lead ports of_twins said_twin twin_reads port_silence)
    (lanes_skip ports.Step said_twin ports of_ports (λ j k event. refl) (λ j k. refl)) (lanes_skip_fronts ports of_ports turn_steps ports.Step said_twin (λ j k event. refl)))
    twins_end start part behind at

pub one_tick_begun : (start : Two (List Port) (List Port)) (part : List WorldEntry) (behind : Two (List Port) (List Port)) (k : ℕ) → SettleFront two_switches two_fronts start part behind
    → sum_over (port_ticks k) part ≤ 1
one_tick_begun start part behind k at =
    front_counted two_switches (sum_over (port_ticks k)) (λ m. mark_at k 0 m.first) (ticks_counted k) two_fronts
    (first_fronts_count (lanes_of ports of_ports) (lanes_of ports of_twins) (fronts_of ports of_ports) (fronts_of ports of_twins) (sum_over (port_ticks k)) (sum_both (port_ticks k)) (mark_at k 0)
    (lanes_tick ports of_ports port_ticks ticks k) (fronts_tick ports of_ports port_ticks ticks k) (lanes_ignore_fronts ports of_twins turn_steps (port_ticks k) (λ j event. refl)))
    start part behind at

pub never_three_begun : (start : Two (List Port) (List Port)) (part : List WorldEntry) (behind : Two (List Port) (List Port)) (k : ℕ) → SettleFront two_switches two_fronts start part behind
    → NeverThree (port_stuck k) 0 part
never_three_begun start part behind k at =
    ends.front_never two_switches (port_stuck k) (port_blocked k) moves (all_unstick k) two_fronts
    (first_fronts_unstick (lanes_of ports of_ports) (lanes_of ports of_twins) (fronts_of ports of_ports) (fronts_of ports of_twins) (port_stuck k) (port_blocked k) moves
    (lanes_unstick ports of_ports k (port_stuck k) (port_blocked k) moves (unsticks k)) (fronts_unstick ports of_ports k (port_stuck k) (port_blocked k) moves (unsticks k))
    (lanes_ignore_fronts ports of_twins turn_steps (port_blocked k) (λ j event. refl))) start part behind at
