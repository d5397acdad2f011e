-- What a line of a script is for a world of lanes, and the part that it gives.
use Rattle.std.specs.Prelude.{◌≡◌, ℕ, ◌<◌, List, length, take, ⊤}
use Rattle.std.specs.List.{flat_map}
use Rattle.vdisk_msg.specs.Fills.{IsRequest}
use Rattle.disk_law.specs.ListStep.{ListEvent}
use Rattle.domain_script.specs.declared.event.Event.{Event}
use Rattle.domain_script.specs.declared.event.Event.TheVariants as event
use Rattle.domain_script.specs.declared.event.Lane.{Lane}
use Rattle.domain_script.specs.declared.event.Side.{Side}
use Rattle.domain_script.specs.declared.event.Side.TheVariants.{Client, Server}
use Rattle.domain_script.specs.declared.fields.LaneKind.{LaneKind}
use Rattle.domain_script.specs.declared.fields.LaneKind.TheVariants as kinds
use Rattle.domain_script.specs.Addresses.{IsGroupAddress}
use Rattle.domain_script.specs.Fills.{IsPiece}
use Rattle.domain_script.specs.Limits.{AreRepeats}
use Rattle.domain_laws.specs.world_laws.Settle.{SettleEntry}
use Rattle.domain_laws.specs.Domain.{DomainState}
use Rattle.domain_laws.specs.Lines.{Asked, Calls, DiskLane, Injects, Joins, LaneName, Line, LineBegins, LineMoves, Loses, Nothing, Pokes, Resets, Restarts, Rounds, Sends, Settles, Starts, Steps, Stops, Ticks}
use Rattle.ldom_report.specs.DiskEvents.{happened_to}
use Rattle.ldom_report.specs.LaneEvents.{end_of}
use Rattle.ldom_entries.specs.declared.entry.Entry.{Entry}
use Rattle.world_parts.specs.Parts.{PartSays}
use Rattle.world_parts.specs.WorldKinds.{in_world, of_kind}

-- a lane of a script is this one of the world, by its kind
abbrev pub lane_named : Lane → LaneName
lane_named lane = of_kind lane.kind lane.number

-- what an event asks of a world
abbrev pub line_of : Event → Line
line_of event.Blank = Nothing
line_of (event.Disk disk) = Nothing
line_of (event.Net port) = Nothing
line_of (event.Issue disk request) = Asked disk request
line_of (event.Send port frame) = Sends port (take frame.len frame.bytes)
line_of (event.Join port address) = Joins port address
line_of event.Settle = Settles
line_of (event.Step end count) = Steps (lane_named end.lane) (end_of end.side) count
line_of (event.Round count) = Rounds count
line_of (event.Reset end) = Calls (lane_named end.lane) (Resets (end_of end.side))
line_of (event.Restart end) = Calls (lane_named end.lane) Restarts
line_of (event.Stop disk) = Calls (DiskLane disk) Stops
line_of (event.Start disk) = Calls (DiskLane disk) Starts
line_of (event.Lose end) = Calls (lane_named end.lane) (Loses (end_of end.side))
line_of (event.Tick lane) = Calls (lane_named lane) Ticks
line_of (event.Inject end packet) = Calls (lane_named end.lane) (Injects (end_of end.side) packet)
line_of (event.Poke end at bytes) = Calls (lane_named end.lane) (Pokes (end_of end.side) at (take bytes.len bytes.bytes))

-- THE LANE IS ONE OF THE WORLD'S
abbrev pub number_of_kind : LaneKind → DomainState → ℕ
number_of_kind kind w = length ((in_world kind).lanes w)

abbrev pub IsLaneOf : DomainState → Lane → Type 0
IsLaneOf w lane = lane.number < number_of_kind lane.kind w

-- an end of it has memory: a disk's client, and either end of a port
abbrev pub HasMemory : LaneKind → Side → Type 0
HasMemory kinds.Disk side = side ≡ Client
HasMemory _ side = ⊤

-- The event is one that a row of a script says, of one of these lanes: a request's fill is one, and so is a frame and a
-- group's address; steps and rounds are 1 to 100; the end that restarts is a disk's server, and one that is poked has
-- memory. Of a declaration nothing is asked.
abbrev pub IsForLanes : DomainState → Event → Type 0
IsForLanes w (event.Issue disk request) = (disk < length w.first.lanes) × IsRequest request
IsForLanes w (event.Send port frame) = (port < length w.second) × IsPiece frame
IsForLanes w (event.Join port address) = (port < length w.second) × IsGroupAddress address
IsForLanes w (event.Step end count) = IsLaneOf w end.lane × AreRepeats count
IsForLanes w (event.Round count) = AreRepeats count
IsForLanes w (event.Reset end) = IsLaneOf w end.lane
IsForLanes w (event.Restart end) = IsLaneOf w end.lane × (end.lane.kind ≡ kinds.Disk) × (end.side ≡ Server)
IsForLanes w (event.Stop disk) = disk < length w.first.lanes
IsForLanes w (event.Start disk) = disk < length w.first.lanes
IsForLanes w (event.Lose end) = IsLaneOf w end.lane
IsForLanes w (event.Tick lane) = IsLaneOf w lane
IsForLanes w (event.Inject end packet) = IsLaneOf w end.lane
IsForLanes w (event.Poke end at bytes) = IsLaneOf w end.lane × HasMemory end.lane.kind end.side
IsForLanes w other = ⊤

-- A LINE with its part of the journal leads a world from one state to another
pub record EventStep (w : DomainState) (line : Event × List Entry) (v : DomainState) : Type 0 where
  pub entries : List SettleEntry
  pub says : PartSays (line_of line.0) line.1 entries
  pub moves : LineMoves w (line_of line.0) entries v

-- and one with the steps of its part that were made before memory was wanted
pub record LineStarts (w : DomainState) (line : Event × List Entry) (v : DomainState) : Type 0 where
  pub entries : List SettleEntry
  pub says : PartSays (line_of line.0) line.1 entries
  pub begins : LineBegins w (line_of line.0) entries v

-- what lines with their parts say of the requests of the disk x
abbrev pub all_happened : ℕ → List (Event × List Entry) → List ListEvent
all_happened x lines = flat_map (λ l. happened_to x l.0 l.1) lines
