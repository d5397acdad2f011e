-- Lines that inject no packet and poke into no memory of a lane leave it unforged, whatever they do to others; and where none stops a server,
-- all run.
use Rattle.std.proofs.Common.{◌≡◌, ℕ, ◌<◌, Bool, true, false, List, [], ◌∷◌, ◌++◌, length, map, slice_get, Some, refl, sym, ap, subst, arith}
use Rattle.std.proofs.lemmas.Bool.{eqb-true}
use Rattle.std.proofs.lemmas.Option.{slice_get_within}
use Rattle.std.specs.Prelude.{◌==◌, if◌then◌else◌, ⊤}
use Rattle.std.specs.Int.{bit_at}
use Rattle.runs.specs.Run.{Run}
use Rattle.ldc_queue.specs.declared.end.End.{End}
use Rattle.ldc_queue.specs.declared.end.End.TheVariants.{A, B}
use Rattle.vdisk_msg.specs.declared.request.Request.{Request}
use Rattle.lane_models.specs.WireEvent as wire
use Rattle.lane_models.specs.WireEvent.{WireEvent}
use Rattle.disk_law.specs.ListState.{ImageState}
use Rattle.lane_models.specs.DiskEvent.{Asks, Calms, DiskEvent, Off, OnWire, Started, Stopped, Switches, Works}
use Rattle.lane_models.specs.LaneState.{LaneState, Shape, fresh}
use Rattle.lane_models.specs.LaneStep.{LaneStep}
use Rattle.lane_kinds.proofs.EntriesEach.{lane_keeps, lanes_keep, said_each}
use Rattle.lane_kinds.proofs.Moving.{each_there}
use Rattle.lane_kinds.proofs.Places.{get_within}
use Rattle.lane_kinds.specs.Lanes.{EachOf, own_or}
use Rattle.lane_laws.specs.CalmEnds.{IsStep}
use Rattle.lane_models.specs.NetEvent as net
use Rattle.lane_models.specs.NetEvent.{NetEvent}
use Rattle.lane_models.specs.NetLaneState.{NetShape}
use Rattle.lane_models.specs.PortState.{OnLane, PortState, Receives, fresh_port}
use Rattle.switch_laws.specs.Events.{OnPort, SwitchEvent, SwitchStep, Switched}
use Rattle.switch_laws.specs.Ports.{IsStepOf as IsPortStep, gets, gift, tick as port_tick}
use Rattle.switch_laws.specs.Reached as port
use Rattle.world_laws.proofs.Along.{many_stay, run_moves}
use Rattle.world_laws.proofs.RequestKeeping.{IsHonest, IsOnWireHonest, KeepsOn, stays_running, stays_unforged}
use Rattle.world_laws.specs.Along.{event_at, happened}
use Rattle.world_laws.specs.Running.{IsRunning}
use Rattle.world_laws.specs.DiskKind.{tick}
use Rattle.world_laws.specs.Settle.{OfLane, OfPort, SettleEntry, Settled, Unsettled, UnsettledPort}
use Rattle.world_laws.specs.Sums as disk
use Rattle.domain_laws.proofs.HonestPorts.{IsNetHonest, IsSwitchHonest, port_stays}
use Rattle.domain_laws.proofs.LineEntries.{AnswersHave, CallsHave, EachEntry, NamesHave, OnEvent, StepsHave, TicksHave, as_many, line_each}
use Rattle.domain_laws.proofs.Running.{disks_run, ports_many, ports_move, ports_run}
use Rattle.domain_laws.proofs.ScriptEntries.{cut_each, cut_run, fresh_many, lines_each, lines_run}
use Rattle.domain_laws.specs.Along.{port_happened, port_said}
use Rattle.domain_laws.specs.Domain.{DomainState, DomainStep, fresh_domain, lanes_in}
use Rattle.domain_laws.specs.Forged.{AllForgeNothing, AllForgeOthers, ForgesNothing, ForgesOthers}
use Rattle.domain_laws.specs.Lines.{AnswersCall, AnswersFrame, AnswersGroup, AnswersNetCall, AnswersPortCall, AnswersRequest, Call, Calls, DiskLane, Injects, LaneName, Line, LineBegins, LineMoves, LineStep, Loses, Pokes, PortLane, Resets, Restarts, Starts, Stops, Ticks, entries_of_lines}
use Rattle.domain_laws.specs.Running.{AllLeaveRunning, LeavesRunning}
use Rattle.domain_laws.specs.Settling.{AreUnforged}

-- STEPS of an end
wire_honest : (e : End) (event : WireEvent) → IsStep e (OnWire event) → IsOnWireHonest event
wire_honest e (wire.Lost d packet) own = absurd own
wire_honest e (wire.Injected d packet) own = absurd own
wire_honest e (wire.Poked d at bytes) own = absurd own
wire_honest e (wire.Declines d) own = absurd own
wire_honest e event own = tt

step_honest : (e : End) (event : DiskEvent) → IsStep e event → IsHonest event
step_honest e (OnWire event) own = wire_honest e event own
step_honest e (Asks event) own = tt
step_honest e (Works event) own = tt
step_honest e (Switches event) own = tt
step_honest e (Calms event) own = tt

step_on : (e : End) (event : DiskEvent) → IsStep e event → KeepsOn event
step_on e (OnWire event) own = tt
step_on e (Asks event) own = tt
step_on e (Works event) own = tt
step_on A (Switches Stopped) own = absurd own
step_on B (Switches Stopped) own = absurd own
step_on e (Switches Started) own = tt
step_on e (Switches Off) own = tt
step_on e (Calms event) own = tt

port_step_honest : (e : End) (event : SwitchEvent) → IsPortStep e event → IsSwitchHonest event
port_step_honest e (OnPort (OnLane (net.Steps d answer))) own = tt
port_step_honest e (Switched frame out full) own = tt
port_step_honest e (OnPort (Receives frame)) own = tt
port_step_honest A (OnPort (OnLane (net.Injects d packet))) own = absurd own
port_step_honest B (OnPort (OnLane (net.Injects d packet))) own = absurd own
port_step_honest A (OnPort (OnLane (net.Pokes d at bytes))) own = absurd own
port_step_honest B (OnPort (OnLane (net.Pokes d at bytes))) own = absurd own
port_step_honest e (OnPort (OnLane event)) own = tt

-- WHAT IS ASKED
asked_honest : (request : Request) (event : DiskEvent) → AnswersRequest request event → IsHonest event
asked_honest request (OnWire event) answers = absurd answers
asked_honest request (Asks event) answers = tt
asked_honest request (Works event) answers = tt
asked_honest request (Switches event) answers = tt
asked_honest request (Calms event) answers = tt

asked_on : (request : Request) (event : DiskEvent) → AnswersRequest request event → KeepsOn event
asked_on request (OnWire event) answers = tt
asked_on request (Asks event) answers = tt
asked_on request (Works event) answers = tt
asked_on request (Switches event) answers = absurd answers
asked_on request (Calms event) answers = tt

frame_honest : (given : List ℕ) (event : SwitchEvent) → AnswersFrame given event → IsSwitchHonest event
frame_honest given (OnPort (OnLane (net.Injects e packet))) answers = absurd answers
frame_honest given (OnPort (OnLane (net.Pokes e at bytes))) answers = absurd answers
frame_honest given _ answers = tt

group_honest : (address : List ℕ) (event : SwitchEvent) → AnswersGroup address event → IsSwitchHonest event
group_honest address (OnPort (OnLane (net.Injects e packet))) answers = absurd answers
group_honest address (OnPort (OnLane (net.Pokes e at bytes))) answers = absurd answers
group_honest address _ answers = tt

-- CALLS other than an injection and a poke
abbrev IsHonestCall : Call → Type 0
IsHonestCall (Injects e packet) = ⊥
IsHonestCall (Pokes e at bytes) = ⊥
IsHonestCall _ = ⊤

injects_none : (call : Call) (e : End) (packet : List ℕ) → IsHonestCall call → AnswersCall call (OnWire (wire.Injected e packet)) → ⊥
injects_none (Resets d) e packet honest answers = answers
injects_none Restarts e packet honest answers = answers
injects_none Stops e packet honest answers = answers
injects_none Starts e packet honest answers = answers
injects_none (Loses d) e packet honest answers = answers
injects_none Ticks e packet honest answers = answers
injects_none (Injects d put) e packet honest answers = honest
injects_none (Pokes d at bytes) e packet honest answers = honest

pokes_none : (call : Call) (e : End) (at : ℕ) (bytes : List ℕ) → IsHonestCall call → AnswersCall call (OnWire (wire.Poked e at bytes)) → ⊥
pokes_none (Resets d) e at bytes honest answers = answers
pokes_none Restarts e at bytes honest answers = answers
pokes_none Stops e at bytes honest answers = answers
pokes_none Starts e at bytes honest answers = answers
pokes_none (Loses d) e at bytes honest answers = answers
pokes_none Ticks e at bytes honest answers = answers
pokes_none (Injects d put) e at bytes honest answers = honest
pokes_none (Pokes d place written) e at bytes honest answers = honest

call_wire_honest : (call : Call) (event : WireEvent) → IsHonestCall call → AnswersCall call (OnWire event) → IsOnWireHonest event
call_wire_honest call (wire.Injected e packet) honest answers = absurd (injects_none call e packet honest answers)
call_wire_honest call (wire.Poked e at bytes) honest answers = absurd (pokes_none call e at bytes honest answers)
call_wire_honest call event honest answers = tt

call_honest : (call : Call) (event : DiskEvent) → IsHonestCall call → AnswersCall call event → IsHonest event
call_honest call (OnWire event) honest answers = call_wire_honest call event honest answers
call_honest call (Asks event) honest answers = tt
call_honest call (Works event) honest answers = tt
call_honest call (Switches event) honest answers = tt
call_honest call (Calms event) honest answers = tt

net_injects_none : (call : Call) (e : End) (packet : List ℕ) → IsHonestCall call → AnswersNetCall call (net.Injects e packet) → ⊥
net_injects_none (Resets d) e packet honest answers = answers
net_injects_none Restarts e packet honest answers = answers
net_injects_none Stops e packet honest answers = answers
net_injects_none Starts e packet honest answers = answers
net_injects_none (Loses d) e packet honest answers = answers
net_injects_none Ticks e packet honest answers = answers
net_injects_none (Injects d put) e packet honest answers = honest
net_injects_none (Pokes d at bytes) e packet honest answers = honest

net_pokes_none : (call : Call) (e : End) (at : ℕ) (bytes : List ℕ) → IsHonestCall call → AnswersNetCall call (net.Pokes e at bytes) → ⊥
net_pokes_none (Resets d) e at bytes honest answers = answers
net_pokes_none Restarts e at bytes honest answers = answers
net_pokes_none Stops e at bytes honest answers = answers
net_pokes_none Starts e at bytes honest answers = answers
net_pokes_none (Loses d) e at bytes honest answers = answers
net_pokes_none Ticks e at bytes honest answers = answers
net_pokes_none (Injects d put) e at bytes honest answers = honest
net_pokes_none (Pokes d place written) e at bytes honest answers = honest

net_call_honest : (call : Call) (event : NetEvent) → IsHonestCall call → AnswersNetCall call event → IsNetHonest event
net_call_honest call (net.Injects e packet) honest answers = absurd (net_injects_none call e packet honest answers)
net_call_honest call (net.Pokes e at bytes) honest answers = absurd (net_pokes_none call e at bytes honest answers)
net_call_honest call event honest answers = tt

port_call_honest : (call : Call) (event : SwitchEvent) → IsHonestCall call → AnswersPortCall call event → IsSwitchHonest event
port_call_honest call (OnPort (OnLane event)) honest answers = net_call_honest call event honest answers
port_call_honest call (OnPort (Receives frame)) honest answers = tt
port_call_honest call (Switched frame out full) honest answers = tt

call_on : (k : ℕ) (call : Call) (event : DiskEvent) → LeavesRunning (Calls (DiskLane k) call) → AnswersCall call event → KeepsOn event
call_on k call (OnWire event) leaves answers = tt
call_on k call (Asks event) leaves answers = tt
call_on k call (Works event) leaves answers = tt
call_on k (Resets e) (Switches Stopped) leaves answers = absurd answers
call_on k Restarts (Switches Stopped) leaves answers = absurd answers
call_on k Stops (Switches Stopped) leaves answers = absurd leaves
call_on k Starts (Switches Stopped) leaves answers = absurd answers
call_on k (Loses e) (Switches Stopped) leaves answers = absurd answers
call_on k Ticks (Switches Stopped) leaves answers = absurd answers
call_on k (Injects e packet) (Switches Stopped) leaves answers = absurd answers
call_on k (Pokes e at bytes) (Switches Stopped) leaves answers = absurd answers
call_on k call (Switches Started) leaves answers = tt
call_on k call (Switches Off) leaves answers = tt
call_on k call (Calms event) leaves answers = tt

-- what forges nothing forges no lane; and a call by which a line forges no other lane than this
nothing_else : (lane : LaneName) (line : Line) → ForgesNothing line → ForgesOthers lane line
nothing_else lane (Calls other (Injects e packet)) none = absurd none
nothing_else lane (Calls other (Pokes e at bytes)) none = absurd none
nothing_else lane _ none = tt

nothing_elses : (lane : LaneName) (lines : List (Line × List SettleEntry)) → AllForgeNothing lines → AllForgeOthers lane lines
nothing_elses lane [] none = tt
nothing_elses lane (line ∷ lines) none = (nothing_else lane line.0 none.0, nothing_elses lane lines none.1)

own_call : (lane : LaneName) (call : Call) → ForgesOthers lane (Calls lane call) → IsHonestCall call
own_call lane (Injects e packet) others = absurd (others refl)
own_call lane (Pokes e at bytes) others = absurd (others refl)
own_call lane _ others = tt

-- ENTRIES of this lane that forge nothing
abbrev IsHonestAt : LaneName → SettleEntry → Type 0
IsHonestAt (DiskLane k) (OfLane j event) = j ≡ k → IsHonest event
IsHonestAt (PortLane k) (OfPort j event) = j ≡ k → IsSwitchHonest event
IsHonestAt lane _ = ⊤

at_disk : (lane : LaneName) (k : ℕ) (event : DiskEvent) → (lane ≡ DiskLane k → IsHonest event) → IsHonestAt lane (OfLane k event)
at_disk (DiskLane j) k event honest = λ same. honest (ap DiskLane (sym same))
at_disk _ k event honest = tt

at_port_lane : (lane : LaneName) (k : ℕ) (event : SwitchEvent) → (lane ≡ PortLane k → IsSwitchHonest event) → IsHonestAt lane (OfPort k event)
at_port_lane (PortLane j) k event honest = λ same. honest (ap PortLane (sym same))
at_port_lane _ k event honest = tt

module _ (lane : LaneName) where
  abbrev Honest : SettleEntry → Type 0
  Honest = IsHonestAt lane

  steps : StepsHave Honest
  steps = record {
    of_disk = λ k e event own. at_disk lane k event (λ same. step_honest e event own);
    of_port = λ k e event own. at_port_lane lane k event (λ same. port_step_honest e event own);
  }

  ticks : TicksHave Honest
  ticks = record { of_disk = λ k. at_disk lane k tick (λ same. tt); of_port = λ k s. at_port_lane lane k (port_tick s) (λ same. tt) }

  names : (n m : ℕ) → NamesHave Honest n m
  names n m = record { of_disk = λ k less. name lane k; of_port = λ k less. port_name lane k; answer = settled lane }
    where
      name : (one : LaneName) (k : ℕ) → IsHonestAt one (Unsettled k)
      name (DiskLane j) k = tt
      name _ k = tt

      port_name : (one : LaneName) (k : ℕ) → IsHonestAt one (UnsettledPort k)
      port_name (DiskLane j) k = tt
      port_name _ k = tt

      settled : (one : LaneName) → IsHonestAt one Settled
      settled (DiskLane j) = tt
      settled _ = tt

  asked : AnswersHave Honest
  asked = record {
    request = λ k request event answers. at_disk lane k event (λ same. asked_honest request event answers);
    frame = λ k given event answers. at_port_lane lane k event (λ same. frame_honest given event answers);
    group = λ k address event answers. at_port_lane lane k event (λ same. group_honest address event answers);
  }

  by_call : (line : Line) (other : LaneName) (call : Call) → ForgesOthers lane line → line ≡ Calls other call → lane ≡ other → IsHonestCall call
  by_call line other call others is same =
      own_call lane call
      (subst (λ (x : LaneName). ForgesOthers lane (Calls x call)) (sym same) (subst (ForgesOthers lane) is others))

  calls : (line : Line) → ForgesOthers lane line → CallsHave Honest line
  calls line others = record {
    of_disk = λ k call event is answers. at_disk lane k event (λ same. call_honest call event (by_call line (DiskLane k) call others is same) answers);
    of_port = λ k call event is answers. at_port_lane lane k event (λ same. port_call_honest call event (by_call line (PortLane k) call others is same) answers);
  }

  -- A LINE, A SCRIPT, and one whose last line was cut
  line_honest : (w : DomainState) (line : Line) (part : List SettleEntry) (v : DomainState) → ForgesOthers lane line → LineMoves w line part v → EachEntry Honest part
  line_honest w line part v others moves =
      let n = length w.first.lanes in
      let m = length w.second in
      line_each Honest steps ticks n m (names n m) asked line (calls line others) (lanes_in w) part (lanes_in v) (as_many (lanes_in w)) moves.part_of

  lines_honest : (w : DomainState) (lines : List (Line × List SettleEntry)) (v : DomainState) → AllForgeOthers lane lines → Run LineStep w lines v → EachEntry Honest (entries_of_lines lines)
  lines_honest w lines v others run =
      let n = length w.first.lanes in
      let m = length w.second in
      lines_each Honest steps ticks n m (names n m) asked (ForgesOthers lane) calls w lines v (as_many (lanes_in w)) others run

  cut_honest : (w : DomainState) (lines : List (Line × List SettleEntry)) (v : DomainState) (line : Line) (part : List SettleEntry) (u : DomainState) → AllForgeOthers lane lines
      → Run LineStep w lines v → LineBegins v line part u → EachEntry Honest (entries_of_lines lines ++ part)
  cut_honest w lines v line part u others run begun =
      let n = length w.first.lanes in
      let m = length w.second in
      cut_each Honest steps ticks n m (names n m) asked (ForgesOthers lane) calls w lines v line part u (as_many (lanes_in w)) others run begun

-- WHAT HAPPENED to the lane forges nothing
one_event : (P : DiskEvent → Type 0) (c : Bool) (event : DiskEvent) → (c ≡ true → P event) → EachOf P (if c then event ∷ [] else [])
one_event P true event holds = (holds refl, tt)
one_event P false event holds = tt

disk_said : (k : ℕ) (entry : SettleEntry) → IsHonestAt (DiskLane k) entry → EachOf IsHonest (event_at k entry)
disk_said k (OfLane j event) honest = one_event IsHonest (j == k) event (λ same. honest (eqb-true j k same))
disk_said k _ honest = tt

gift_honest : (c : Bool) (frame : List ℕ) → EachOf IsSwitchHonest (gift c frame)
gift_honest true frame = (tt, tt)
gift_honest false frame = tt

gets_honest : (k : ℕ) (event : SwitchEvent) → EachOf IsSwitchHonest (gets k event)
gets_honest k (Switched frame out full) = gift_honest (bit_at out k == 1) frame
gets_honest k (OnPort event) = tt

own_honest : (c : Bool) (event : SwitchEvent) (gifts : List SwitchEvent) → (c ≡ true → IsSwitchHonest event) → EachOf IsSwitchHonest gifts → EachOf IsSwitchHonest (own_or c event gifts)
own_honest true event gifts honest given = (honest refl, tt)
own_honest false event gifts honest given = given

port_said_honest : (k : ℕ) (entry : SettleEntry) → IsHonestAt (PortLane k) entry → EachOf IsSwitchHonest (port_said k entry)
port_said_honest k (OfPort j event) honest = own_honest (k == j) event (gets k event) (λ same. honest (sym (eqb-true k j same))) (gets_honest k event)
port_said_honest k _ honest = tt

disk_happened : (k : ℕ) (part : List SettleEntry) → EachEntry (IsHonestAt (DiskLane k)) part → EachOf IsHonest (happened k part)
disk_happened k part each = said_each event_at (IsHonestAt (DiskLane k)) IsHonest k (disk_said k) part each

port_happened_honest : (k : ℕ) (part : List SettleEntry) → EachEntry (IsHonestAt (PortLane k)) part → EachOf IsSwitchHonest (port_happened k part)
port_happened_honest k part each = said_each port_said (IsHonestAt (PortLane k)) IsSwitchHonest k (port_said_honest k) part each

-- NOBODY FORGES a lane by the entries of other lanes
module _ (w : DomainState) (part : List SettleEntry) (v : DomainState) (run : Run DomainStep w part v) where
  disk_clean : (k : ℕ) (s t : LaneState) → EachEntry (IsHonestAt (DiskLane k)) part → slice_get w.first.lanes k ≡ Some s → slice_get v.first.lanes k ≡ Some t → disk.IsUnforged s
      → disk.IsUnforged t
  disk_clean k s t each there after clean =
      lane_keeps LaneStep event_at IsHonest disk.IsUnforged stays_unforged k w.first.lanes part v.first.lanes s t (disk_happened k part each)
      (run_moves w.first part v.first (disks_run w part v run)) there after clean

  port_clean : (k : ℕ) (s t : PortState) → EachEntry (IsHonestAt (PortLane k)) part → slice_get w.second k ≡ Some s → slice_get v.second k ≡ Some t → port.IsUnforged s → port.IsUnforged t
  port_clean k s t each there after clean =
      lane_keeps SwitchStep port_said IsSwitchHonest port.IsUnforged port_stays k w.second part v.second s t (port_happened_honest k part each)
      (ports_move w.second part v.second (ports_run w part v run)) there after clean

  all_clean : ((lane : LaneName) → EachEntry (IsHonestAt lane) part) → AreUnforged (lanes_in w) → AreUnforged (lanes_in v)
  all_clean each clean = record {
    of_disks = lanes_keep LaneStep event_at IsHonest disk.IsUnforged stays_unforged 0 w.first.lanes part v.first.lanes (λ k. disk_happened k part (each (DiskLane k)))
        (run_moves w.first part v.first (disks_run w part v run)) clean.of_disks;
    of_ports = lanes_keep SwitchStep port_said IsSwitchHonest port.IsUnforged port_stays 0 w.second part v.second (λ k. port_happened_honest k part (each (PortLane k)))
        (ports_move w.second part v.second (ports_run w part v run)) clean.of_ports;
  }

pub disk_by_line : (w : DomainState) (line : Line) (part : List SettleEntry) (v : DomainState) (k : ℕ) (s t : LaneState) → ForgesOthers (DiskLane k) line → LineMoves w line part v
    → slice_get w.first.lanes k ≡ Some s → slice_get v.first.lanes k ≡ Some t → disk.IsUnforged s → disk.IsUnforged t
disk_by_line w line part v k s t others moves there after clean = disk_clean w part v moves.run k s t (line_honest (DiskLane k) w line part v others moves) there after clean

pub port_by_line : (w : DomainState) (line : Line) (part : List SettleEntry) (v : DomainState) (k : ℕ) (s t : PortState) → ForgesOthers (PortLane k) line → LineMoves w line part v
    → slice_get w.second k ≡ Some s → slice_get v.second k ≡ Some t → port.IsUnforged s → port.IsUnforged t
port_by_line w line part v k s t others moves there after clean = port_clean w part v moves.run k s t (line_honest (PortLane k) w line part v others moves) there after clean

-- FROM A FRESH WORLD
fresh_disks : (shapes : List Shape) → EachOf disk.IsUnforged (map fresh shapes)
fresh_disks [] = tt
fresh_disks (shape ∷ shapes) = (refl, fresh_disks shapes)

fresh_ports : (nets : List NetShape) → EachOf port.IsUnforged (map fresh_port nets)
fresh_ports [] = tt
fresh_ports (shape ∷ nets) = (refl, fresh_ports nets)

within : (k n m : ℕ) → k < n → n ≡ m → k < m
within k n m less is = omega (arith, less, is)

pub disk_by_script : (shapes : List Shape) (image : ImageState) (nets : List NetShape) (lines : List (Line × List SettleEntry)) (w : DomainState) (k : ℕ) (t : LaneState)
    → AllForgeOthers (DiskLane k) lines → Run LineStep (fresh_domain shapes image nets) lines w → slice_get w.first.lanes k ≡ Some t → disk.IsUnforged t
disk_by_script shapes image nets lines w k t others run after =
    let start = fresh_domain shapes image nets in
    let whole = lines_run start lines w run in
    let first = get_within (map fresh shapes) k
    (within k (length w.first.lanes) (length (map fresh shapes)) (slice_get_within w.first.lanes k t after) (many_stay start.first (entries_of_lines lines) w.first (disks_run start (entries_of_lines lines) w whole))) in
    disk_clean start (entries_of_lines lines) w whole k first.0 t (lines_honest (DiskLane k) start lines w others run) first.1 after
    (each_there disk.IsUnforged (map fresh shapes) k first.0 (fresh_disks shapes) first.1)

pub port_by_script : (shapes : List Shape) (image : ImageState) (nets : List NetShape) (lines : List (Line × List SettleEntry)) (w : DomainState) (k : ℕ) (t : PortState)
    → AllForgeOthers (PortLane k) lines → Run LineStep (fresh_domain shapes image nets) lines w → slice_get w.second k ≡ Some t → port.IsUnforged t
port_by_script shapes image nets lines w k t others run after =
    let start = fresh_domain shapes image nets in
    let whole = lines_run start lines w run in
    let first = get_within (map fresh_port nets) k
    (within k (length w.second) (length (map fresh_port nets)) (slice_get_within w.second k t after) (ports_many start.second (entries_of_lines lines) w.second (ports_run start (entries_of_lines lines) w whole))) in
    port_clean start (entries_of_lines lines) w whole k first.0 t (lines_honest (PortLane k) start lines w others run) first.1 after
    (each_there port.IsUnforged (map fresh_port nets) k first.0 (fresh_ports nets) first.1)

pub unforged_behind : (shapes : List Shape) (image : ImageState) (nets : List NetShape) (lines : List (Line × List SettleEntry)) (w : DomainState) → AllForgeNothing lines
    → Run LineStep (fresh_domain shapes image nets) lines w → AreUnforged (lanes_in w)
unforged_behind shapes image nets lines w none run =
    all_clean (fresh_domain shapes image nets) (entries_of_lines lines) w (lines_run (fresh_domain shapes image nets) lines w run)
    (λ lane. lines_honest lane (fresh_domain shapes image nets) lines w (nothing_elses lane lines none) run) (record { of_disks = fresh_disks shapes; of_ports = fresh_ports nets })

-- a front of a line is none of a call's, so that it forges nothing, whatever the line
pub unforged_begun : (shapes : List Shape) (image : ImageState) (nets : List NetShape) (lines : List (Line × List SettleEntry)) (w : DomainState) (line : Line) (part : List SettleEntry)
    (v : DomainState) → AllForgeNothing lines → Run LineStep (fresh_domain shapes image nets) lines w → LineBegins w line part v → AreUnforged (lanes_in v)
unforged_begun shapes image nets lines w line part v none run begun =
    let start = fresh_domain shapes image nets in
    all_clean start (entries_of_lines lines ++ part) v (cut_run start lines w line part v run begun)
    (λ lane. cut_honest lane start lines w line part v (nothing_elses lane lines none) run begun) (record { of_disks = fresh_disks shapes; of_ports = fresh_ports nets })

-- ALL RUN
abbrev On : SettleEntry → Type 0
On = OnEvent KeepsOn (λ event. ⊤)

on_steps : StepsHave On
on_steps = record { of_disk = λ k e event own. step_on e event own; of_port = λ k e event own. tt }

on_ticks : TicksHave On
on_ticks = record { of_disk = λ k. tt; of_port = λ k s. tt }

on_names : (n m : ℕ) → NamesHave On n m
on_names n m = record { of_disk = λ k less. tt; of_port = λ k less. tt; answer = tt }

on_asked : AnswersHave On
on_asked = record { request = λ k request event answers. asked_on request event answers; frame = λ k given event answers. tt; group = λ k address event answers. tt }

on_calls : (line : Line) → LeavesRunning line → CallsHave On line
on_calls line leaves = record {
  of_disk = λ k call event is answers. call_on k call event (subst LeavesRunning is leaves) answers;
  of_port = λ k call event is answers. tt;
}

said_on : (k : ℕ) (entry : SettleEntry) → On entry → EachOf KeepsOn (event_at k entry)
said_on k (OfLane j event) on = one_event KeepsOn (j == k) event (λ same. on)
said_on k _ on = tt

fresh_runs : (shapes : List Shape) → EachOf IsRunning (map fresh shapes)
fresh_runs [] = tt
fresh_runs (shape ∷ shapes) = (refl, fresh_runs shapes)

all_run : (shapes : List Shape) (image : ImageState) (nets : List NetShape) (entries : List SettleEntry) (v : DomainState) → Run DomainStep (fresh_domain shapes image nets) entries v
    → EachEntry On entries → EachOf IsRunning v.first.lanes
all_run shapes image nets entries v run each =
    let start = fresh_domain shapes image nets in
    lanes_keep LaneStep event_at KeepsOn IsRunning stays_running 0 (map fresh shapes) entries v.first.lanes (λ k. said_each event_at On KeepsOn k (said_on k) entries each)
    (run_moves start.first entries v.first (disks_run start entries v run)) (fresh_runs shapes)

pub running_behind : (shapes : List Shape) (image : ImageState) (nets : List NetShape) (lines : List (Line × List SettleEntry)) (w : DomainState) → AllLeaveRunning lines
    → Run LineStep (fresh_domain shapes image nets) lines w → EachOf IsRunning w.first.lanes
running_behind shapes image nets lines w leave run =
    let start = fresh_domain shapes image nets in
    let n = length shapes in
    let m = length nets in
    all_run shapes image nets (entries_of_lines lines) w (lines_run start lines w run)
    (lines_each On on_steps on_ticks n m (on_names n m) on_asked LeavesRunning on_calls start lines w (fresh_many shapes image nets) leave run)

-- a front of a line is none of a call's, so that it stops nothing, whatever the line
pub running_begun : (shapes : List Shape) (image : ImageState) (nets : List NetShape) (lines : List (Line × List SettleEntry)) (w : DomainState) (line : Line) (part : List SettleEntry)
    (v : DomainState) → AllLeaveRunning lines → Run LineStep (fresh_domain shapes image nets) lines w → LineBegins w line part v → EachOf IsRunning v.first.lanes
running_begun shapes image nets lines w line part v leave run begun =
    let start = fresh_domain shapes image nets in
    let n = length shapes in
    let m = length nets in
    all_run shapes image nets (entries_of_lines lines ++ part) v (cut_run start lines w line part v run begun)
    (cut_each On on_steps on_ticks n m (on_names n m) on_asked LeavesRunning on_calls start lines w line part v (fresh_many shapes image nets) leave run begun)
