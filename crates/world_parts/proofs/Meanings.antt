-- What holds of all that an entry may be for the lanes, whatever line it came in: by what it means.
use Rattle.std.proofs.Common.{◌≡◌, ℕ, ◌==◌, ◌&&◌, Bool, true, false, List, length, Option, Some, None, option_map, refl, sym, subst}
use Rattle.std.specs.Option.{option_or}
use Rattle.std.specs.Prelude.{IsSomeAnd, ⊤}
use Rattle.std.proofs.lemmas.Bool.{eqb-true}
use Rattle.vdisk_msg.specs.declared.request.Request.{Request}
use Rattle.disk_law.specs.Requests.{Defect}
use Rattle.domain_laws.specs.lane_models.WireEvent.{Declined, Declines, InjectedFull, NothingLost, NotInjected, PokeRefused, WireEvent}
use Rattle.domain_laws.specs.lane_models.DiskEvent.{Asks, Calm, CalmReset, CalmRestart, CalmStart, CalmStop, CalmTick, DiskEvent, Full, OnWire, Published, Refused, Calms, Works}
use Rattle.domain_laws.specs.lane_models.NetEvent.{CalmTick as CalmPortTick, Gives, Joins, NetEvent, Steps}
use Rattle.domain_laws.specs.lane_models.NetEvent as net
use Rattle.domain_laws.specs.lane_models.NetEndStep.{Already, BadLength, Frame, GroupsFull}
use Rattle.domain_laws.specs.lane_models.NetEndStep as port
use Rattle.domain_laws.specs.lane_models.PortState.{OnLane}
use Rattle.domain_laws.specs.switch_laws.Events.{OnPort, SwitchEvent, Switched}
use Rattle.ldc_queue.specs.declared.end.End.{End}
use Rattle.ldc_queue.specs.declared.end.End.TheVariants.{A, B}
use Rattle.domain_laws.specs.world_laws.Settle.{OfLane, OfPort, SettleEntry, Settled, Unsettled, UnsettledPort}
use Rattle.domain_laws.specs.Lines.{Asked, Call, Calls, DiskLane, Injects, LaneName, Line, Loses, Pokes, PortLane, Resets, Restarts, Sends, Starts, Stops, Ticks}
use Rattle.domain_laws.specs.Lines as line
use Rattle.domain_script.specs.declared.event.EndName.{EndName}
use Rattle.domain_script.specs.declared.event.Lane.{Lane}
use Rattle.domain_script.specs.declared.fields.LaneKind.{LaneKind}
use Rattle.domain_script.specs.declared.fields.LaneKind.TheVariants as kinds
use Rattle.domain_script.specs.LaneKinds.{disk_lane, disk_of, if_disk, if_port, lane_at, port_lane, port_of}
use Rattle.domain_script.specs.declared.event.Side.{Side}
use Rattle.domain_script.specs.declared.event.Side.TheVariants.{Client, Server}
use Rattle.ldom_entries.specs.declared.entry.Entry.{Entry}
use Rattle.ldom_entries.specs.declared.entry.Who.{Who}
use Rattle.ldom_entries.specs.declared.entry.Who.TheVariants.{Lane as OfWhole, End as OfEnd}
use Rattle.ldom_entries.specs.declared.entry.Why.{Why}
use Rattle.ldom_entries.specs.declared.entry.Why.TheVariants.{Groups, Length, Range}
use Rattle.ldom_report.specs.DiskEvents.{defect_of}
use Rattle.ldom_report.specs.LaneEvents.{AtLane, AtPort, AtServer, AtWire, ChangesNothing, LeavesNothing, LeavesOver, Meaning, NoRoomFor, Publishes, Refuses, Switches, TakesFrame, end_of, meaning}
use Rattle.world_parts.specs.WorldEvents.{at_disk, at_port, declined_at, disk_called, disk_event, full_call, given_to, if_so, is_end, is_lane, is_same, lane_called, meant, net_event, of_client, of_net, of_server, on_channel, port_called, port_declined, published_by, refused_asked, refused_call, switched_by, taken_by, unsettled_event, wire_event, world_event}

-- the lane of whom an entry is about
abbrev pub lane_of : Who → Lane
lane_of (OfWhole lane) = lane
lane_of (OfEnd e) = e.lane

-- what is there, if anything, has a property
abbrev pub Has : (SettleEntry → Type 0) → Option SettleEntry → Type 0
Has P (Some x) = P x
Has P None = ⊤

-- an event of the whole lane of a disk, or of a port, that an entry is about: where an end is named there is none
abbrev pub DiskHas : (SettleEntry → Type 0) → Who → DiskEvent → Type 0
DiskHas P (OfWhole lane) event = Has P (disk_event lane event)
DiskHas P (OfEnd e) event = ⊤

abbrev pub NetHas : (SettleEntry → Type 0) → Who → NetEvent → Type 0
NetHas P (OfWhole lane) event = Has P (net_event lane event)
NetHas P (OfEnd e) event = ⊤

-- what comes to nothing on the wire of whom an entry is about has a property
abbrev pub DeclinedHas : (SettleEntry → Type 0) → Who → Type 0
DeclinedHas P who = (d : Declined) → Has P (wire_event (lane_of who) (Declines d))

-- what found no room, what is refused, and what changes nothing
pub record RoomHolds (P : SettleEntry → Type 0) (who : Who) : Type 0 where
  pub request : (request : Request) → DiskHas P who (Asks (Full request))
  pub frame : (frame : List ℕ) → NetHas P who (Gives A (port.Full frame))
  pub declined : DeclinedHas P who

pub record RefusalHolds (P : SettleEntry → Type 0) (who : Who) : Type 0 where
  pub request : (defect : Defect) (request : Request) → DiskHas P who (Asks (Refused defect request))
  pub frame : (frame : List ℕ) → NetHas P who (Gives A (BadLength frame))
  pub group : (address : List ℕ) → NetHas P who (Joins (GroupsFull address))
  pub declined : DeclinedHas P who

pub record CalmHolds (P : SettleEntry → Type 0) (who : Who) : Type 0 where
  pub disk : (calm : Calm) → Has P (disk_event (lane_of who) (Calms calm))
  pub tick : NetHas P who (CalmPortTick 0)
  pub group : (address : List ℕ) → NetHas P who (Joins (Already address))
  pub declined : DeclinedHas P who

-- WHATEVER IS MEANT for the lanes has a property. Where an end is named in place of its lane, nothing may be meant.
abbrev pub Holds : (SettleEntry → Type 0) → Meaning → Type 0
Holds P (AtWire e event) = Has P (wire_event e.lane event)
Holds P (AtServer e event) = Has P (disk_event e.lane event)
Holds P (AtLane k event) = P (OfLane k event)
Holds P (AtPort k gets) = P (of_net k (given_to gets))
Holds P (Publishes e id) = Has P (published_by e id)
Holds P (TakesFrame e frame) = Has P (net_event e.lane (Steps A (Frame frame)))
Holds P (Switches e frame out full) = Has P (option_map (λ k. OfPort k (Switched frame out full)) (port_of e.lane))
Holds P (NoRoomFor who) = RoomHolds P who
Holds P (Refuses who why) = RefusalHolds P who
Holds P (ChangesNothing who) = CalmHolds P who
Holds P (LeavesOver who) = Has P (unsettled_event who)
Holds P LeavesNothing = P Settled

pub or_has : (P : SettleEntry → Type 0) (one two : Option SettleEntry) → Has P one → Has P two → Has P (option_or one two)
or_has P None two first second = second
or_has P (Some x) two first second = first

if_has : (P : SettleEntry → Type 0) (b : Bool) (x : SettleEntry) → P x → Has P (if_so b x)
if_has P true x holds = holds
if_has P false x holds = tt

-- of the lane with this number, where the name is that lane's
number_has : (P : SettleEntry → Type 0) (j k : ℕ) (same also : Bool) (f : ℕ → SettleEntry) → (j == k) ≡ same → P (f k) → Has P (if_so (same && also) (f j))
number_has P j k true true f is holds = subst (λ (n : ℕ). P (f n)) (sym (eqb-true j k is)) holds
number_has P j k true false f is holds = tt
number_has P j k false also f is holds = tt

named_has : (P : SettleEntry → Type 0) (j : ℕ) (o : Option ℕ) (also : Bool) (f : ℕ → SettleEntry) → Has P (option_map f o) → Has P (if_so (is_lane j o && also) (f j))
named_has P j None also f holds = tt
named_has P j (Some k) also f holds = number_has P j k (j == k) also f refl holds

whole_has : (P : SettleEntry → Type 0) (j k : ℕ) (same : Bool) (f : ℕ → SettleEntry) → (j == k) ≡ same → P (f k) → Has P (if_so same (f j))
whole_has P j k true f is holds = subst (λ (n : ℕ). P (f n)) (sym (eqb-true j k is)) holds
whole_has P j k false f is holds = tt

pub at_has : (P : SettleEntry → Type 0) (j : ℕ) (o : Option ℕ) (f : ℕ → SettleEntry) → Has P (option_map f o) → Has P (if_so (is_lane j o) (f j))
at_has P j None f holds = tt
at_has P j (Some k) f holds = whole_has P j k (j == k) f refl holds

client_has : (P : SettleEntry → Type 0) (side : Side) (lane : Lane) (event : DiskEvent) → Has P (disk_event lane event) → Has P (of_client side lane event)
client_has P Client lane event holds = holds
client_has P Server lane event holds = tt

server_has : (P : SettleEntry → Type 0) (side : Side) (lane : Lane) (event : DiskEvent) → Has P (disk_event lane event) → Has P (of_server side lane event)
server_has P Client lane event holds = tt
server_has P Server lane event holds = holds

taken_has : (P : SettleEntry → Type 0) (side : Side) (lane : Lane) (frame : List ℕ) → Has P (net_event lane (Steps A (Frame frame))) → Has P (taken_by side lane frame)
taken_has P Client lane frame holds = holds
taken_has P Server lane frame holds = tt

switched_has : (P : SettleEntry → Type 0) (side : Side) (lane : Lane) (event : SwitchEvent) → Has P (option_map (λ k. OfPort k event) (port_of lane)) → Has P (switched_by side lane event)
switched_has P Client lane event holds = tt
switched_has P Server lane event holds = holds

-- A CALL OF AN END that came to nothing: the line's lane is that of the end
disk_end_has : (P : SettleEntry → Type 0) (j : ℕ) (kind : LaneKind) (n : ℕ) (also : Bool) (d : Declined) → Has P (wire_event (lane_at kind n) (Declines d))
    → Has P (if_so (is_lane j (if_disk kind n) && also) (OfLane j (OnWire (Declines d))))
disk_end_has P j kinds.Disk n also d holds = named_has P j (Some n) also (λ k. OfLane k (OnWire (Declines d))) holds
disk_end_has P j _ n also d holds = tt

port_end_has : (P : SettleEntry → Type 0) (j : ℕ) (kind : LaneKind) (n : ℕ) (also : Bool) (d : Declined) → Has P (wire_event (lane_at kind n) (Declines d))
    → Has P (if_so (is_lane j (if_port kind n) && also) (of_net j (on_channel (Declines d))))
port_end_has P j kinds.Port n also d holds = named_has P j (Some n) also (λ k. of_net k (on_channel (Declines d))) holds
port_end_has P j _ n also d holds = tt

port_declined_has : (P : SettleEntry → Type 0) (name : LaneName) (e : End) (at : EndName) (d : Declined) → DeclinedHas P (OfEnd at) → Has P (port_declined name e at d)
port_declined_has P (PortLane j) e at d holds = port_end_has P j at.lane.kind at.lane.number (is_same e (end_of at.side)) d (holds d)
port_declined_has P name e at d holds = tt

declined_has : (P : SettleEntry → Type 0) (name : LaneName) (e : End) (at : EndName) (d : Declined) → DeclinedHas P (OfEnd at) → Has P (declined_at name e at d)
declined_has P (DiskLane j) e at d holds = disk_end_has P j at.lane.kind at.lane.number (is_same e (end_of at.side)) d (holds d)
declined_has P name e at d holds = port_declined_has P name e at d holds

full_has : (P : SettleEntry → Type 0) (name : LaneName) (call : Call) (at : EndName) → DeclinedHas P (OfEnd at) → Has P (full_call name call at)
full_has P name (Injects e packet) at holds = declined_has P name e at (InjectedFull e packet) holds
full_has P name call at holds = tt

refused_has : (P : SettleEntry → Type 0) (name : LaneName) (call : Call) (at : EndName) (why : Why) → DeclinedHas P (OfEnd at) → Has P (refused_call name call at why)
refused_has P name (Pokes e at bytes) end Range holds = declined_has P name e end (PokeRefused e at (length bytes)) holds
refused_has P name call at why holds = tt

asked_has : (P : SettleEntry → Type 0) (j : ℕ) (request : Request) (lane : Lane) (defect : Option Defect) → RefusalHolds P (OfWhole lane) → Has P (refused_asked j request lane defect)
asked_has P j request lane None holds = tt
asked_has P j request lane (Some defect) holds = at_has P j (disk_of lane) (λ k. OfLane k (Asks (Refused defect request))) (holds.request defect request)

disk_called_has : (P : SettleEntry → Type 0) (j : ℕ) (call : Call) (who : Who) → CalmHolds P who → Has P (disk_called j call who)
disk_called_has P j Stops (OfWhole lane) holds = at_has P j (disk_of lane) (λ k. OfLane k (Calms CalmStop)) (holds.disk CalmStop)
disk_called_has P j Starts (OfWhole lane) holds = at_has P j (disk_of lane) (λ k. OfLane k (Calms CalmStart)) (holds.disk CalmStart)
disk_called_has P j Ticks (OfWhole lane) holds = at_has P j (disk_of lane) (λ k. OfLane k (Calms CalmTick)) (holds.disk CalmTick)
disk_called_has P j (Resets e) (OfEnd at) holds =
    named_has P j (disk_of at.lane) (is_same e (end_of at.side)) (λ k. OfLane k (Calms (CalmReset e))) (holds.disk (CalmReset e))
disk_called_has P j Restarts (OfEnd at) holds =
    named_has P j (disk_of at.lane) (is_same B (end_of at.side)) (λ k. OfLane k (Calms CalmRestart)) (holds.disk CalmRestart)
disk_called_has P j call who holds = tt

port_called_has : (P : SettleEntry → Type 0) (name : LaneName) (call : Call) (who : Who) → CalmHolds P who → Has P (port_called name call who)
port_called_has P (PortLane j) Ticks (OfWhole lane) holds = at_has P j (port_of lane) (λ k. of_net k (CalmPortTick 0)) holds.tick
port_called_has P name call who holds = tt

called_has : (P : SettleEntry → Type 0) (name : LaneName) (call : Call) (who : Who) → CalmHolds P who → Has P (lane_called name call who)
called_has P name (Loses e) (OfEnd at) holds = declined_has P name e at (NothingLost e) holds.declined
called_has P name (Injects e packet) (OfEnd at) holds = declined_has P name e at (NotInjected e packet) holds.declined
called_has P (DiskLane j) call who holds = disk_called_has P j call who holds
called_has P name call who holds = port_called_has P name call who holds

meant_has : (P : SettleEntry → Type 0) (asked : Line) (x : Meaning) → Holds P x → Has P (meant asked x)
meant_has P asked (AtWire e event) holds = holds
meant_has P asked (AtServer e event) holds = server_has P e.side e.lane event holds
meant_has P asked (AtLane k event) holds = holds
meant_has P asked (AtPort k gets) holds = holds
meant_has P asked (Publishes e id) holds = holds
meant_has P asked (TakesFrame e frame) holds = taken_has P e.side e.lane frame holds
meant_has P asked (Switches e frame out full) holds = switched_has P e.side e.lane (Switched frame out full) holds
meant_has P (Asked j request) (NoRoomFor (OfWhole lane)) holds = at_has P j (disk_of lane) (λ k. OfLane k (Asks (Full request))) (holds.request request)
meant_has P (Sends j frame) (NoRoomFor (OfWhole lane)) holds = at_has P j (port_of lane) (λ k. of_net k (Gives A (port.Full frame))) (holds.frame frame)
meant_has P (Calls name call) (NoRoomFor (OfEnd at)) holds = full_has P name call at holds.declined
meant_has P (Asked j request) (Refuses (OfWhole lane) why) holds = asked_has P j request lane (defect_of why) holds
meant_has P (Sends j frame) (Refuses (OfWhole lane) Length) holds = at_has P j (port_of lane) (λ k. of_net k (Gives A (BadLength frame))) (holds.frame frame)
meant_has P (line.Joins j address) (Refuses (OfWhole lane) Groups) holds = at_has P j (port_of lane) (λ k. of_net k (Joins (GroupsFull address))) (holds.group address)
meant_has P (Calls name call) (Refuses (OfEnd at) why) holds = refused_has P name call at why holds.declined
meant_has P (Calls name call) (ChangesNothing who) holds = called_has P name call who holds
meant_has P (line.Joins j address) (ChangesNothing (OfWhole lane)) holds = at_has P j (port_of lane) (λ k. of_net k (Joins (Already address))) (holds.group address)
meant_has P asked (LeavesOver who) holds = holds
meant_has P asked LeavesNothing holds = holds
meant_has P asked x holds = tt

-- SO HAS WHAT AN ENTRY IS for the lanes
pub entry_has : (P : SettleEntry → Type 0) (asked : Line) (e : Entry) (m : SettleEntry) → Holds P (meaning e) → world_event asked e ≡ Some m → P m
entry_has P asked e m holds is = subst (Has P) is (meant_has P asked (meaning e) holds)

-- OF A LANE, by its kind: what all lanes of that kind have with something of theirs
disk_kind : (P : Lane → SettleEntry → Type 0) (kind : LaneKind) (n : ℕ) (f : ℕ → SettleEntry) → ((k : ℕ) → P (disk_lane k) (f k))
    → Has (P (lane_at kind n)) (option_map f (if_disk kind n))
disk_kind P kinds.Disk n f holds = holds n
disk_kind P _ n f holds = tt

pub lane_has : (P : Lane → SettleEntry → Type 0) (f : ℕ → SettleEntry) (lane : Lane) → ((k : ℕ) → P (disk_lane k) (f k))
    → Has (P lane) (option_map f (disk_of lane))
lane_has P f lane holds = disk_kind P lane.kind lane.number f holds

port_kind : (P : Lane → SettleEntry → Type 0) (kind : LaneKind) (n : ℕ) (f : ℕ → SettleEntry) → ((k : ℕ) → P (port_lane k) (f k))
    → Has (P (lane_at kind n)) (option_map f (if_port kind n))
port_kind P kinds.Port n f holds = holds n
port_kind P _ n f holds = tt

pub port_has : (P : Lane → SettleEntry → Type 0) (f : ℕ → SettleEntry) (lane : Lane) → ((k : ℕ) → P (port_lane k) (f k))
    → Has (P lane) (option_map f (port_of lane))
port_has P f lane holds = port_kind P lane.kind lane.number f holds

pub wire_has : (P : Lane → SettleEntry → Type 0) (event : WireEvent) (lane : Lane)
    → ((k : ℕ) → P (disk_lane k) (OfLane k (OnWire event))) → ((k : ℕ) → P (port_lane k) (of_net k (on_channel event)))
    → Has (P lane) (wire_event lane event)
wire_has P event lane disks ports =
    or_has (P lane) (disk_event lane (OnWire event)) (net_event lane (on_channel event)) (lane_has P (λ k. OfLane k (OnWire event)) lane disks)
    (port_has P (λ k. of_net k (on_channel event)) lane ports)

pub left_has : (P : Lane → SettleEntry → Type 0) (who : Who) → ((k : ℕ) → P (disk_lane k) (Unsettled k))
    → ((k : ℕ) → P (port_lane k) (UnsettledPort k)) → Has (P (lane_of who)) (unsettled_event who)
left_has P (OfWhole lane) disks ports =
    or_has (P lane) (option_map (λ k. Unsettled k) (disk_of lane)) (option_map (λ k. UnsettledPort k) (port_of lane)) (lane_has P (λ k. Unsettled k) lane disks)
    (port_has P (λ k. UnsettledPort k) lane ports)
left_has P (OfEnd e) disks ports = tt

pub published_has : (P : Lane → SettleEntry → Type 0) (id : ℕ) (e : EndName)
    → ((k : ℕ) → P (disk_lane k) (OfLane k (Works (Published id))))
    → ((k : ℕ) (end : End) → P (port_lane k) (of_net k (Steps end (port.Published id))))
    → Has (P e.lane) (published_by e id)
published_has P id e disks ports =
    or_has (P e.lane) (of_client e.side e.lane (Works (Published id))) (net_event e.lane (Steps (end_of e.side) (port.Published id)))
    (client_has (P e.lane) e.side e.lane (Works (Published id)) (lane_has P (λ k. OfLane k (Works (Published id))) e.lane disks))
    (port_has P (λ k. of_net k (Steps (end_of e.side) (port.Published id))) e.lane (λ k. ports k (end_of e.side)))

-- WHAT AN ENTRY MAY BE FOR THE LANES, by the events of disks and of ports that it may be
pub record Events (P : Lane → SettleEntry → Type 0) (Q : DiskEvent → Type 0) : Type 0 where
  pub of_disk : (k : ℕ) (event : DiskEvent) → Q event → P (disk_lane k) (OfLane k event)
  pub of_port : (k : ℕ) (event : SwitchEvent) → P (port_lane k) (OfPort k event)

abbrev pub AllOf : (DiskEvent → Type 0) → Meaning → Type 0
AllOf Q (AtWire e event) = Q (OnWire event)
AllOf Q (AtServer e event) = Q event
AllOf Q (AtLane k event) = Q event
AllOf Q (AtPort k gets) = ⊤
AllOf Q (Publishes e id) = Q (Works (Published id))
AllOf Q (TakesFrame e frame) = ⊤
AllOf Q (Switches e frame out full) = ⊤
AllOf Q (NoRoomFor who) = ((request : Request) → Q (Asks (Full request))) × ((d : Declined) → Q (OnWire (Declines d)))
AllOf Q (Refuses who why) =
    ((defect : Defect) (request : Request) → Q (Asks (Refused defect request))) × ((d : Declined) → Q (OnWire (Declines d)))
AllOf Q (ChangesNothing who) = ((calm : Calm) → Q (Calms calm)) × ((d : Declined) → Q (OnWire (Declines d)))
AllOf Q (LeavesOver who) = ⊥
AllOf Q LeavesNothing = ⊥

-- the lane that a meaning is about
abbrev pub about : Meaning → Lane
about (AtWire e event) = e.lane
about (AtServer e event) = e.lane
about (AtLane k event) = disk_lane k
about (AtPort k gets) = port_lane k
about (Publishes e id) = e.lane
about (TakesFrame e frame) = e.lane
about (Switches e frame out full) = e.lane
about (NoRoomFor who) = lane_of who
about (Refuses who why) = lane_of who
about (ChangesNothing who) = lane_of who
about (LeavesOver who) = lane_of who
about LeavesNothing = disk_lane 0

module _ (P : Lane → SettleEntry → Type 0) (Q : DiskEvent → Type 0) (events : Events P Q) where
  declined : (who : Who) → ((d : Declined) → Q (OnWire (Declines d))) → DeclinedHas (P (lane_of who)) who
  declined who all d = wire_has P (Declines d) (lane_of who) (λ k. events.of_disk k (OnWire (Declines d)) (all d))
      (λ k. events.of_port k (OnPort (OnLane (net.Declines d))))

  disk_whole : (who : Who) (event : DiskEvent) → Q event → DiskHas (P (lane_of who)) who event
  disk_whole (OfWhole lane) event q = lane_has P (λ k. OfLane k event) lane (λ k. events.of_disk k event q)
  disk_whole (OfEnd e) event q = tt

  net_whole : (who : Who) (event : NetEvent) → NetHas (P (lane_of who)) who event
  net_whole (OfWhole lane) event = port_has P (λ k. of_net k event) lane (λ k. events.of_port k (OnPort (OnLane event)))
  net_whole (OfEnd e) event = tt

  pub by_events : (x : Meaning) → AllOf Q x → Holds (P (about x)) x
  by_events (AtWire e event) q = wire_has P event e.lane (λ k. events.of_disk k (OnWire event) q)
      (λ k. events.of_port k (OnPort (OnLane (on_channel event))))
  by_events (AtServer e event) q = lane_has P (λ k. OfLane k event) e.lane (λ k. events.of_disk k event q)
  by_events (AtLane k event) q = events.of_disk k event q
  by_events (AtPort k gets) q = events.of_port k (OnPort (OnLane (given_to gets)))
  by_events (Publishes e id) q = published_has P id e (λ k. events.of_disk k (Works (Published id)) q)
      (λ k end. events.of_port k (OnPort (OnLane (Steps end (port.Published id)))))
  by_events (TakesFrame e frame) q = port_has P (λ k. of_net k (Steps A (Frame frame))) e.lane
      (λ k. events.of_port k (OnPort (OnLane (Steps A (Frame frame)))))
  by_events (Switches e frame out full) q = port_has P (λ k. OfPort k (Switched frame out full)) e.lane
      (λ k. events.of_port k (Switched frame out full))
  by_events (NoRoomFor who) q = record {
    request = λ request. disk_whole who (Asks (Full request)) (q.0 request);
    frame = λ frame. net_whole who (Gives A (port.Full frame));
    declined = declined who q.1;
  }
  by_events (Refuses who why) q = record {
    request = λ defect request. disk_whole who (Asks (Refused defect request)) (q.0 defect request);
    frame = λ frame. net_whole who (Gives A (BadLength frame));
    group = λ address. net_whole who (Joins (GroupsFull address));
    declined = declined who q.1;
  }
  by_events (ChangesNothing who) q = record {
    disk = λ calm. lane_has P (λ k. OfLane k (Calms calm)) (lane_of who) (λ k. events.of_disk k (Calms calm) (q.0 calm));
    tick = net_whole who (CalmPortTick 0);
    group = λ address. net_whole who (Joins (Already address));
    declined = declined who q.1;
  }
  by_events (LeavesOver who) q = absurd q
  by_events LeavesNothing q = absurd q

-- THE SAME of all lanes
pub record SameEvents (P : SettleEntry → Type 0) (Q : DiskEvent → Type 0) : Type 0 where
  pub of_disk : (k : ℕ) (event : DiskEvent) → Q event → P (OfLane k event)
  pub of_port : (k : ℕ) (event : SwitchEvent) → P (OfPort k event)

pub all_events : (P : SettleEntry → Type 0) (Q : DiskEvent → Type 0) → SameEvents P Q → (x : Meaning) → AllOf Q x → Holds P x
all_events P Q events x q = by_events (λ lane. P) Q (record { of_disk = events.of_disk; of_port = events.of_port }) x q

pub all_left : (P : SettleEntry → Type 0) (who : Who) → ((k : ℕ) → P (Unsettled k)) → ((k : ℕ) → P (UnsettledPort k))
    → Has P (unsettled_event who)
all_left P who disks ports = left_has (λ lane. P) who disks ports
