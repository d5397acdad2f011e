-- The last event of a lawful run of a port, and the sizes of its queues.
use Rattle.std.proofs.Common.{◌≤◌, List, [], ◌∷◌, ◌++◌, ap, arith}
use Rattle.runs.specs.Lawful.{Lawful, lawful_split, log_of}
use Rattle.runs.specs.Run.{Run}
use Rattle.lane_models.specs.NetLaneState.{IsNetShape, NetShape}
use Rattle.lane_models.specs.PortLog.{PortLog, after, no_events}
use Rattle.lane_models.specs.PortState.{PortEvent, PortState, PortStep, fresh_port}
use Rattle.port_laws.proofs.RingRuns.{port_kept}

pub last_lawful : (shape : NetShape) (May : PortLog → PortEvent → Type 0) (events : List PortEvent) (event : PortEvent) → Lawful May after (no_events shape) (events ++ event ∷ [])
    → May (log_of after (no_events shape) events) event
last_lawful shape May events event lawful = (lawful_split May after (no_events shape) events (event ∷ []) lawful).1.0

pub many_entries : (shape : NetShape) (events : List PortEvent) (s : PortState) → IsNetShape shape → Run PortStep (fresh_port shape) events s → 8 ≤ (log_of after (no_events shape) events).shape.entries
many_entries shape events s is run = omega (arith, is.some_entries, ap (λ (x : NetShape). x.entries) (port_kept shape events s is run).counts.shape_is)
