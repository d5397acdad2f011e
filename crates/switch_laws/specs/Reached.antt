-- Ports of a switch that events led to, each by a run of its own.
use Rattle.std.specs.Prelude.{◌≡◌, false, List}
use Rattle.runs.specs.Run.{Run}
use Rattle.port_laws.specs.NetLaneState.{IsNetShape, NetShape}
use Rattle.port_laws.specs.PortState.{PortEvent, PortState, PortStep, fresh_port}

pub record IsReached (s : PortState) : Type 0 where
  pub shape : NetShape
  pub sound : IsNetShape shape
  pub events : List PortEvent
  pub run : Run PortStep (fresh_port shape) events s

-- nobody forged its packets or memories; and no packet was lost since its queues were last emptied
abbrev pub IsUnforged : PortState → Type 0
IsUnforged s = s.lane.wire.forged ≡ false

abbrev pub IsLossless : PortState → Type 0
IsLossless s = s.lane.wire.lossy ≡ false

pub record IsClean (s : PortState) : Type 0 where
  pub reached : IsReached s
  pub unforged : IsUnforged s
