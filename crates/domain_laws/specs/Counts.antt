-- Counts over the part of a settle over disks and ports: entries that are steps other than Blocked, or ticks; and how often an end found no
-- room with nothing but Blocked between, on any disk or port.
use Rattle.std.specs.Prelude.{ℕ, Bool, true, false, if◌then◌else◌, List}
use Rattle.ldc_queue.specs.declared.end.End.{End}
use Rattle.lane_models.specs.WireEvent as wire
use Rattle.lane_models.specs.DiskEvent.{OnWire}
use Rattle.lane_kinds.specs.Stuck.{sum_over}
use Rattle.lane_models.specs.NetEndStep.{Blocked}
use Rattle.lane_models.specs.NetEvent.{Steps}
use Rattle.lane_models.specs.PortState.{OnLane}
use Rattle.switch_laws.specs.Events.{OnPort, SwitchEvent}
use Rattle.switch_laws.specs.PortCounts as port
use Rattle.switch_laws.specs.Ports as switch_ports
use Rattle.world_laws.specs.Moves as disk
use Rattle.world_laws.specs.Settle.{OfLane, OfPort, SettleEntry}

abbrev pub is_blocked : SwitchEvent → Bool
is_blocked (OnPort (OnLane (Steps e Blocked))) = true
is_blocked _ = false

abbrev pub moves : SettleEntry → ℕ
moves (OfPort j event) = if is_blocked event then 0 else 1
moves entry = disk.moves entry

abbrev pub moves_in : List SettleEntry → ℕ
moves_in part = sum_over moves part

-- an end of a disk, and one of a port
abbrev pub disk_stuck : ℕ → End → ℕ → SettleEntry → ℕ
disk_stuck k e n (OfPort j event) = if is_blocked event then n else 0
disk_stuck k e n entry = disk.stuck k e n entry

abbrev pub port_stuck : ℕ → End → ℕ → SettleEntry → ℕ
port_stuck k e n (OfPort j event) = port.port_stuck k e n (switch_ports.OfPort j event)
port_stuck k e n (OfLane j (OnWire (wire.Blocked d))) = n
port_stuck k e n _ = 0

abbrev pub port_blocked : ℕ → End → SettleEntry → ℕ
port_blocked k e (OfPort j event) = port.port_blocked k e (switch_ports.OfPort j event)
port_blocked k e _ = 0
