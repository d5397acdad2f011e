-- Counts over the entries of a switch: what moves, ticks of a port, and how often one of its ends found no room.
use Rattle.std.specs.Prelude.{ℕ, ◌+◌, ◌==◌, ◌&&◌, Bool, true, false, if◌then◌else◌}
use Rattle.ldc_queue.specs.declared.end.End.{End}
use Rattle.ldc_queue.specs.declared.end.End.TheVariants.{A, B}
use Rattle.lane_kinds.specs.LaneCounts.{once}
use Rattle.port_laws.specs.NetEndStep.{Blocked}
use Rattle.port_laws.specs.NetEvent.{Steps, Ticked}
use Rattle.port_laws.specs.PortState.{OnLane}
use Rattle.switch_laws.specs.Events.{OnPort}
use Rattle.switch_laws.specs.Ports.{OfPort, SwitchEntry}

abbrev pub moves : SwitchEntry → ℕ
moves (OfPort j (OnPort (OnLane (Steps e Blocked)))) = 0
moves (OfPort j event) = 1
moves _ = 0

abbrev pub port_ticks : ℕ → SwitchEntry → ℕ
port_ticks k (OfPort j (OnPort (OnLane (Ticked queued lost)))) = once (j == k)
port_ticks k _ = 0

-- AN END THAT IS STUCK: it found no room, so often with nothing else between on any port
abbrev pub is_end : End → End → Bool
is_end A A = true
is_end A B = false
is_end B A = false
is_end B B = true

abbrev pub stuck_on : Bool → ℕ → ℕ
stuck_on here n = if here then n + 1 else n

abbrev pub port_stuck : ℕ → End → ℕ → SwitchEntry → ℕ
port_stuck k e n (OfPort j (OnPort (OnLane (Steps d Blocked)))) = stuck_on ((j == k) && is_end d e) n
port_stuck k e n _ = 0

abbrev pub port_blocked : ℕ → End → SwitchEntry → ℕ
port_blocked k e (OfPort j (OnPort (OnLane (Steps d Blocked)))) = once ((j == k) && is_end d e)
port_blocked k e _ = 0
