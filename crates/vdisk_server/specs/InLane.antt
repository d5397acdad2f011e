-- A server in the lane of its disk.
use Rattle.std.specs.Prelude.{ℕ, List, ◌||◌}
use Rattle.lane_models.specs.WireLog.{wire_moved}
use Rattle.lane_models.specs.DiskEvent.{DiskEvent, OnWire, Works}
use Rattle.lane_models.specs.LaneState.{LaneState}
use Rattle.lane_models.specs.LaneStep.{failed_worked, near_on_wire, near_worked}
use Rattle.lane_models.specs.ServerState.{ServerState}

-- the lane after a step of its server, with the server and the client's memory as the step left them
abbrev pub lane_after : LaneState → DiskEvent → ServerState → List ℕ → LaneState
lane_after s (OnWire event) server memory = record s { wire = wire_moved s.wire event; server = server; memory = memory; near = near_on_wire s event }
lane_after s (Works event) server memory =
    record s { server = server; memory = memory; failed = s.failed || failed_worked event; near = near_worked event s.near }
lane_after s event server memory = s
