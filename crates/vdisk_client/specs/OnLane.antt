-- A client's step as a step of a disk's lane, over the lane's channel and memory.
use Rattle.std.specs.Prelude.{ℕ, List}
use Rattle.lane_models.specs.WireLog.{wire_moved}
use Rattle.lane_models.specs.ClientState.{ClientState}
use Rattle.lane_models.specs.DiskEvent.{Asks, DiskEvent, OnWire, Calms, Switches, Works}
use Rattle.lane_models.specs.LaneState.{LaneState}
use Rattle.lane_models.specs.LaneStep.{near_on_wire, near_worked}

-- the lane after an event of its client, which left the client and the memory so
abbrev pub client_moved : LaneState → DiskEvent → ClientState → List ℕ → LaneState
client_moved s (OnWire event) client memory =
    record s { wire = wire_moved s.wire event; client = client; memory = memory; near = near_on_wire s event }
client_moved s (Works event) client memory = record s { client = client; memory = memory; near = near_worked event s.near }
client_moved s (Asks event) client memory = record s { client = client }
client_moved s (Switches event) client memory = s
client_moved s (Calms event) client memory = s
