-- Lines of a script that stop no server.
use Rattle.std.specs.Prelude.{List, ⊤}
use Rattle.lane_kinds.specs.Lanes.{EachOf}
use Rattle.world_laws.specs.Settle.{SettleEntry}
use Rattle.domain_laws.specs.Lines.{Calls, Line, Stops}

abbrev pub LeavesRunning : Line → Type 0
LeavesRunning (Calls lane Stops) = ⊥
LeavesRunning _ = ⊤

abbrev pub AllLeaveRunning : List (Line × List SettleEntry) → Type 0
AllLeaveRunning lines = EachOf (λ (line : Line × List SettleEntry). LeavesRunning line.0) lines
