-- Counts over the entries of two switches: what moves, ticks of a port, and how often its end at the switch found no
-- room.
use Rattle.std.specs.Prelude.{ℕ, ◌+◌, ◌==◌, if◌then◌else◌}
use Rattle.lane_kinds.specs.LaneCounts.{once}
use Rattle.kind_cases.specs.Ports.{Blocked, Tick}
use Rattle.kind_cases.specs.World.{OfPort, OfTwin, WorldEntry}

abbrev pub moves : WorldEntry → ℕ
moves (OfPort j Blocked) = 0
moves (OfTwin j Blocked) = 0
moves (OfPort j event) = 1
moves (OfTwin j event) = 1
moves _ = 0

abbrev pub port_ticks : ℕ → WorldEntry → ℕ
port_ticks k (OfPort j Tick) = once (j == k)
port_ticks k _ = 0

abbrev pub port_stuck : ℕ → ℕ → WorldEntry → ℕ
port_stuck k n (OfPort j Blocked) = if j == k then n + 1 else n
port_stuck k n (OfTwin j Blocked) = n
port_stuck k n _ = 0

abbrev pub port_blocked : ℕ → WorldEntry → ℕ
port_blocked k (OfPort j Blocked) = once (j == k)
port_blocked k _ = 0
