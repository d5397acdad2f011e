-- Which answers of an end's step rest, and which find no room; and which events a settle leaves out.
use Rattle.std.specs.Prelude.{Bool, true, false}
use Rattle.world_parts.specs.lane_models.DiskEvent.{DiskEvent, Off, OnWire, Switches}
use Rattle.world_parts.specs.lane_models.WireEvent.{Idle}
use Rattle.disk_lane.specs.vdisk_client.declared.answers.ClientOut.{ClientOut}
use Rattle.disk_lane.specs.vdisk_client.declared.answers.ClientOut.TheVariants as client_out
use Rattle.disk_lane.specs.answers.ServerOut.{ServerOut}
use Rattle.disk_lane.specs.answers.ServerOut.TheVariants as server_out

-- an end idled, or its server is stopped: a settle leaves it out
abbrev pub left_out : DiskEvent → Bool
left_out (OnWire (Idle e)) = true
left_out (Switches Off) = true
left_out _ = false

-- the client had nothing to do
abbrev pub client_rests : ClientOut → Bool
client_rests client_out.Idle = true
client_rests _ = false

-- the client found no room for its packet
abbrev pub client_blocked : ClientOut → Bool
client_blocked client_out.Blocked = true
client_blocked _ = false

-- the server had nothing to do
abbrev pub server_rests : ServerOut → Bool
server_rests server_out.Idle = true
server_rests _ = false

-- the server found no room for its packet
abbrev pub server_blocked : ServerOut → Bool
server_blocked server_out.Blocked = true
server_blocked _ = false
