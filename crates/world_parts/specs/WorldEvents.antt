-- What the entries of a journal are for the lanes of a world, in the part of a script's line that they came in.
use Rattle.std.specs.Prelude.{ℕ, Bool, true, false, ◌==◌, ◌&&◌, List, length, Option, Some, None, option_and_then, option_map}
use Rattle.std.specs.Option.{option_or}
use Rattle.ldc_queue.specs.declared.end.End.{End}
use Rattle.ldc_queue.specs.declared.end.End.TheVariants.{A, B}
use Rattle.vio_tag.specs.declared.cause.Cause.{Cause}
use Rattle.vio_tag.specs.declared.cause.Cause.TheVariants as the_cause
use Rattle.vdisk_msg.specs.declared.request.Request.{Request}
use Rattle.disk_law.specs.Requests.{Defect}
use Rattle.domain_laws.specs.lane_models.WireEvent.{Declined, Declines, InjectedFull, NothingLost, NotInjected, PokeRefused, WireEvent}
use Rattle.domain_laws.specs.lane_models.WireEvent as wire
use Rattle.domain_laws.specs.lane_models.DiskEvent.{DiskEvent, OnWire, Asks, Calms, CalmTick, CalmStop, CalmStart, CalmReset, CalmRestart, Works}
use Rattle.domain_laws.specs.lane_models.DiskEvent as disk
use Rattle.domain_laws.specs.lane_models.NetEvent.{CalmTick as CalmPortTick, Gives, Joins, NetEvent, Steps, Ticked}
use Rattle.domain_laws.specs.lane_models.NetEvent as net
use Rattle.domain_laws.specs.lane_models.NetEndStep.{Already, BadLength, Frame, GroupsFull, Member, Queued}
use Rattle.domain_laws.specs.lane_models.NetEndStep as port
use Rattle.domain_laws.specs.lane_models.PortState.{OnLane}
use Rattle.domain_laws.specs.switch_laws.Events.{OnPort, SwitchEvent, Switched}
use Rattle.domain_laws.specs.world_laws.Settle.{OfLane, OfPort, SettleEntry}
use Rattle.domain_laws.specs.world_laws.Settle as settle
use Rattle.domain_laws.specs.Lines.{Asked, Call, Calls, DiskLane, Injects, LaneName, Line, Loses, Pokes, PortLane, Resets, Restarts, Sends, Starts, Stops, Ticks}
use Rattle.domain_laws.specs.Lines as line
use Rattle.domain_script.specs.declared.event.EndName.{EndName}
use Rattle.domain_script.specs.declared.event.Lane.{Lane}
use Rattle.domain_script.specs.LaneKinds.{disk_of, port_of}
use Rattle.domain_script.specs.declared.event.Side.{Side}
use Rattle.domain_script.specs.declared.event.Side.TheVariants.{Client, Server}
use Rattle.ldom_entries.specs.declared.entry.Entry.{Entry}
use Rattle.ldom_entries.specs.declared.entry.Who.{Who}
use Rattle.ldom_entries.specs.declared.entry.Who.TheVariants.{Lane as OfWhole, End as OfEnd}
use Rattle.ldom_entries.specs.declared.entry.Why.{Why}
use Rattle.ldom_entries.specs.declared.entry.Why.TheVariants.{Groups, Length, Range}
use Rattle.ldom_report.specs.DiskEvents.{defect_of}
use Rattle.ldom_report.specs.LaneEvents.{AtLane, AtPort, AtServer, AtWire, ChangesNothing, GetsFrame, GetsGroup, GuestGets, LeavesNothing, LeavesOver, Meaning, NoRoomFor, Publishes, Refuses, Switches, TakesFrame, end_of, meaning}

-- whether an end is this one of the lane with this number
abbrev pub is_same : End → End → Bool
is_same A A = true
is_same B B = true
is_same _ _ = false

abbrev pub is_lane : ℕ → Option ℕ → Bool
is_lane j None = false
is_lane j (Some k) = j == k

-- an event where this holds, and else none
abbrev pub if_so : Bool → SettleEntry → Option SettleEntry
if_so true x = Some x
if_so false x = None

-- AN EVENT OF A PORT ALONE, of a disk, and of a port; and one of the lane with this number, where the name is that lane's
abbrev pub of_net : ℕ → NetEvent → SettleEntry
of_net k event = OfPort k (OnPort (OnLane event))

abbrev pub disk_event : Lane → DiskEvent → Option SettleEntry
disk_event lane event = option_map (λ k. OfLane k event) (disk_of lane)

abbrev pub net_event : Lane → NetEvent → Option SettleEntry
net_event lane event = option_map (λ k. of_net k event) (port_of lane)

abbrev pub at_disk : ℕ → Option ℕ → DiskEvent → Option SettleEntry
at_disk j k event = if_so (is_lane j k) (OfLane j event)

abbrev pub at_port : ℕ → Option ℕ → NetEvent → Option SettleEntry
at_port j k event = if_so (is_lane j k) (of_net j event)

-- WHAT A PORT'S EVENT ON ITS CHANNEL IS. A reset that a script asked for, and one by a tick, is no step. How many frames stood in the out queue
-- at a tick no entry tells: it is 0 here.
abbrev pub reset_of : End → Cause → Option (List ℕ) → ℕ → NetEvent
reset_of e the_cause.Asked None lost = net.Asked e lost
reset_of A the_cause.Tick None lost = Ticked 0 lost
reset_of e cause packet lost = Steps e (port.Reset cause packet lost)

abbrev pub on_channel : WireEvent → NetEvent
on_channel (wire.Joined e lost) = Steps e (port.Joined lost)
on_channel (wire.Took e packet opens) = Steps e (port.Took packet opens)
on_channel (wire.Sent e packet opens) = Steps e (port.Sent packet opens)
on_channel (wire.Blocked e) = Steps e port.Blocked
on_channel (wire.Idle e) = Steps e port.Idle
on_channel (wire.Reset e cause packet lost) = reset_of e cause packet lost
on_channel (wire.Lost e packet) = net.Loses e packet
on_channel (wire.Injected e packet) = net.Injects e packet
on_channel (wire.Poked e at bytes) = net.Pokes e at bytes
on_channel (Declines d) = net.Declines d

-- AN EVENT ON A LANE'S CHANNEL, a disk's or a port's
abbrev pub wire_event : Lane → WireEvent → Option SettleEntry
wire_event lane event = option_or (disk_event lane (OnWire event)) (net_event lane (on_channel event))

-- the work of a client, and that of a server: of the other end there is none
abbrev pub of_client : Side → Lane → DiskEvent → Option SettleEntry
of_client Client lane event = disk_event lane event
of_client Server lane event = None

abbrev pub of_server : Side → Lane → DiskEvent → Option SettleEntry
of_server Server lane event = disk_event lane event
of_server Client lane event = None

-- what a guest is given
abbrev pub given_to : GuestGets → NetEvent
given_to (GetsFrame id frame) = Gives A (Queued id frame)
given_to (GetsGroup address) = Joins (Member address)

-- what an end publishes: a disk's client a request, either end of a port a frame
abbrev pub published_by : EndName → ℕ → Option SettleEntry
published_by e id = option_or (of_client e.side e.lane (Works (disk.Published id))) (net_event e.lane (Steps (end_of e.side) (port.Published id)))

-- a frame that a guest takes, and one that the switch's end took, which is switched
abbrev pub taken_by : Side → Lane → List ℕ → Option SettleEntry
taken_by Client lane frame = net_event lane (Steps A (Frame frame))
taken_by Server lane frame = None

abbrev pub switched_by : Side → Lane → SwitchEvent → Option SettleEntry
switched_by Server lane event = option_map (λ k. OfPort k event) (port_of lane)
switched_by Client lane event = None

-- A CALL THAT CAME TO NOTHING, of the end that the line names
abbrev pub is_port_end : LaneName → End → EndName → Bool
is_port_end (PortLane k) e at = is_lane k (port_of at.lane) && is_same e (end_of at.side)
is_port_end name e at = false

abbrev pub is_end : LaneName → End → EndName → Bool
is_end (DiskLane k) e at = is_lane k (disk_of at.lane) && is_same e (end_of at.side)
is_end name e at = is_port_end name e at

abbrev pub port_declined : LaneName → End → EndName → Declined → Option SettleEntry
port_declined (PortLane k) e at d = if_so (is_end (PortLane k) e at) (of_net k (on_channel (Declines d)))
port_declined name e at d = None

abbrev pub declined_at : LaneName → End → EndName → Declined → Option SettleEntry
declined_at (DiskLane k) e at d = if_so (is_end (DiskLane k) e at) (OfLane k (OnWire (Declines d)))
declined_at name e at d = port_declined name e at d

-- a packet for which there was no room at its end, and bytes that leave its memory
abbrev pub full_call : LaneName → Call → EndName → Option SettleEntry
full_call name (Injects e packet) at = declined_at name e at (InjectedFull e packet)
full_call name _ at = None

abbrev pub refused_call : LaneName → Call → EndName → Why → Option SettleEntry
refused_call name (Pokes e at bytes) end Range = declined_at name e end (PokeRefused e at (length bytes))
refused_call name _ end why = None

-- What found no room, or was refused: a request or a frame, of the lane that the line names, or a call of the end that it names.
abbrev pub full_event : Line → Who → Option SettleEntry
full_event (Asked j request) (OfWhole lane) = at_disk j (disk_of lane) (Asks (disk.Full request))
full_event (Sends j frame) (OfWhole lane) = at_port j (port_of lane) (Gives A (port.Full frame))
full_event (Calls name call) (OfEnd at) = full_call name call at
full_event _ _ = None

abbrev pub refused_asked : ℕ → Request → Lane → Option Defect → Option SettleEntry
refused_asked j request lane None = None
refused_asked j request lane (Some defect) = at_disk j (disk_of lane) (Asks (disk.Refused defect request))

abbrev pub refused_event : Line → Who → Why → Option SettleEntry
refused_event (Asked j request) (OfWhole lane) why = refused_asked j request lane (defect_of why)
refused_event (Sends j frame) (OfWhole lane) Length = at_port j (port_of lane) (Gives A (BadLength frame))
refused_event (line.Joins j address) (OfWhole lane) Groups = at_port j (port_of lane) (Joins (GroupsFull address))
refused_event (Calls name call) (OfEnd at) why = refused_call name call at why
refused_event _ _ why = None

-- What was asked of a lane and changes nothing there: of the lane that the line names, or of the end that it names.
abbrev pub disk_called : ℕ → Call → Who → Option SettleEntry
disk_called j Stops (OfWhole lane) = at_disk j (disk_of lane) (Calms CalmStop)
disk_called j Starts (OfWhole lane) = at_disk j (disk_of lane) (Calms CalmStart)
disk_called j Ticks (OfWhole lane) = at_disk j (disk_of lane) (Calms CalmTick)
disk_called j (Resets e) (OfEnd at) = if_so (is_end (DiskLane j) e at) (OfLane j (Calms (CalmReset e)))
disk_called j Restarts (OfEnd at) = if_so (is_end (DiskLane j) B at) (OfLane j (Calms CalmRestart))
disk_called j _ _ = None

abbrev pub port_called : LaneName → Call → Who → Option SettleEntry
port_called (PortLane j) Ticks (OfWhole lane) = at_port j (port_of lane) (CalmPortTick 0)
port_called name _ _ = None

abbrev pub lane_called : LaneName → Call → Who → Option SettleEntry
lane_called name (Loses e) (OfEnd at) = declined_at name e at (NothingLost e)
lane_called name (Injects e packet) (OfEnd at) = declined_at name e at (NotInjected e packet)
lane_called (DiskLane j) call who = disk_called j call who
lane_called name call who = port_called name call who

abbrev pub calm_event : Line → Who → Option SettleEntry
calm_event (Calls name call) who = lane_called name call who
calm_event (line.Joins j address) (OfWhole lane) = at_port j (port_of lane) (Joins (Already address))
calm_event _ who = None

abbrev pub left_over : Lane → Option SettleEntry
left_over lane = option_or (option_map (λ k. settle.Unsettled k) (disk_of lane)) (option_map (λ k. settle.UnsettledPort k) (port_of lane))

abbrev pub unsettled_event : Who → Option SettleEntry
unsettled_event (OfWhole lane) = left_over lane
unsettled_event (OfEnd e) = None

-- what is meant for the lanes, where it came in the part of this line; none where it doesn't belong to it, or to its end
abbrev pub meant : Line → Meaning → Option SettleEntry
meant asked (AtWire e event) = wire_event e.lane event
meant asked (AtServer e event) = of_server e.side e.lane event
meant asked (AtLane k event) = Some (OfLane k event)
meant asked (AtPort k gets) = Some (of_net k (given_to gets))
meant asked (Publishes e id) = published_by e id
meant asked (TakesFrame e frame) = taken_by e.side e.lane frame
meant asked (Switches e frame out full) = switched_by e.side e.lane (Switched frame out full)
meant asked (NoRoomFor who) = full_event asked who
meant asked (Refuses who why) = refused_event asked who why
meant asked (ChangesNothing who) = calm_event asked who
meant asked (LeavesOver who) = unsettled_event who
meant asked LeavesNothing = Some settle.Settled

-- WHAT AN ENTRY IS FOR THE LANES, where it came in the part of this line
abbrev pub world_event : Line → Entry → Option SettleEntry
world_event asked entry = meant asked (meaning entry)

-- AND WHAT A JOURNAL TELLS OF IT: all but how many frames stood in a port's out queue at a tick
abbrev pub told_net : NetEvent → NetEvent
told_net (Ticked queued lost) = Ticked 0 lost
told_net (CalmPortTick queued) = CalmPortTick 0
told_net event = event

abbrev pub told_of : SettleEntry → SettleEntry
told_of (OfPort k (OnPort (OnLane event))) = of_net k (told_net event)
told_of entry = entry
