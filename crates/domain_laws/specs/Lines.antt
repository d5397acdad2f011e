-- What a line of a script asks of a world of disks and ports, and the part of the journal that it gives.
use Rattle.std.specs.Prelude.{◌≡◌, Bool, ℕ, zero, suc, ◌+◌, List, [], ◌∷◌, ◌++◌, flat_map, length, replicate, ⊤}
use Rattle.runs.specs.Run.{Run}
use Rattle.lane_kinds.specs.Both.{Two, both_fronts}
use Rattle.lane_kinds.specs.Fronts.{Fronts, SettleFront}
use Rattle.lane_kinds.specs.LaneFronts.{fronts_of}
use Rattle.lane_kinds.specs.Settles.{SettlePart}
use Rattle.ldc_queue.specs.declared.end.End.{End}
use Rattle.ldc_queue.specs.declared.end.End.TheVariants.{A, B}
use Rattle.vdisk_msg.specs.declared.request.Request.{Request}
use Rattle.vio_tag.specs.declared.cause.Cause.TheVariants as the_cause
use Rattle.lane_models.specs.WireEvent.{InjectedFull, NotInjected, NothingLost, PokeRefused}
use Rattle.lane_models.specs.WireEvent as wire
use Rattle.lane_models.specs.DiskEvent.{Accepted, Asks, CalmReset, CalmRestart, CalmStart, CalmStop, CalmTick, Calms, DiskEvent, OnWire, Refused, Started, Stopped, Switches}
use Rattle.lane_models.specs.DiskEvent as disk
use Rattle.lane_models.specs.LaneState.{LaneState}
use Rattle.lane_laws.specs.CalmEnds.{IsStep}
use Rattle.lane_models.specs.NetEndStep.{Already, BadLength, GroupsFull, Member, Queued}
use Rattle.lane_models.specs.NetEndStep as port
use Rattle.lane_models.specs.NetEvent.{CalmTick as CalmPortTick, Gives, NetEvent, Ticked}
use Rattle.lane_models.specs.NetEvent as net
use Rattle.lane_models.specs.PortState.{OnLane, PortState}
use Rattle.switch_laws.specs.Events.{OnPort, SwitchEvent}
use Rattle.switch_laws.specs.Ports.{IsStepOf as IsPortStep, ports}
use Rattle.world_laws.specs.Begun.{fronts as disk_fronts}
use Rattle.world_laws.specs.Settle.{OfLane, OfPort, SettleEntry, disks}
use Rattle.domain_laws.specs.Domain.{DomainState, DomainStep, Lanes, lanes, lanes_in, port_entries}

-- A LANE of a world, by its kind and its number
pub data LaneName : Type 0 where
  DiskLane : (number : ℕ) → LaneName
  PortLane : (number : ℕ) → LaneName

-- what a script may do to a lane, beside asking and stepping it
pub data Call : Type 0 where
  Resets : (e : End) → Call
  Restarts : Call
  Stops : Call
  Starts : Call
  Loses : (e : End) → Call
  Ticks : Call
  -- a packet waits for the end as if its peer had put it; and bytes are written into the end's memory from this place on
  Injects : (e : End) (packet : List ℕ) → Call
  Pokes : (e : End) (at : ℕ) (bytes : List ℕ) → Call

pub data Line : Type 0 where
  -- a blank line or a declaration
  Nothing : Line
  -- a guest asks the disk with this number
  Asked : (lane : ℕ) (request : Request) → Line
  -- the guest of the port with this number is given a frame, or joins a group
  Sends : (lane : ℕ) (frame : List ℕ) → Line
  Joins : (lane : ℕ) (address : List ℕ) → Line
  -- so many steps of an end of a lane, and so many rounds over all lanes
  Steps : (lane : LaneName) (e : End) (count : ℕ) → Line
  Rounds : (count : ℕ) → Line
  Settles : Line
  Calls : (lane : LaneName) (call : Call) → Line

-- WHAT MAY COME of a request, of a frame and of a group,
abbrev pub AnswersRequest : Request → DiskEvent → Type 0
AnswersRequest request (Asks (Accepted id asked)) = asked ≡ request
AnswersRequest request (Asks (disk.Full asked)) = asked ≡ request
AnswersRequest request (Asks (Refused why asked)) = asked ≡ request
AnswersRequest request _ = ⊥

abbrev pub AnswersFrame : List ℕ → SwitchEvent → Type 0
AnswersFrame frame (OnPort (OnLane (Gives A (Queued id given)))) = given ≡ frame
AnswersFrame frame (OnPort (OnLane (Gives A (port.Full given)))) = given ≡ frame
AnswersFrame frame (OnPort (OnLane (Gives A (BadLength given)))) = given ≡ frame
AnswersFrame frame _ = ⊥

abbrev pub AnswersGroup : List ℕ → SwitchEvent → Type 0
AnswersGroup address (OnPort (OnLane (net.Joins (Member joined)))) = joined ≡ address
AnswersGroup address (OnPort (OnLane (net.Joins (Already joined)))) = joined ≡ address
AnswersGroup address (OnPort (OnLane (net.Joins (GroupsFull joined)))) = joined ≡ address
AnswersGroup address _ = ⊥

-- of a call of a disk's lane,
abbrev pub AnswersCall : Call → DiskEvent → Type 0
AnswersCall (Resets e) (OnWire (wire.Reset d the_cause.Asked packet lost)) = d ≡ e
AnswersCall (Resets e) (Calms (CalmReset d)) = d ≡ e
AnswersCall Restarts (OnWire (wire.Reset B the_cause.Restart packet lost)) = ⊤
AnswersCall Restarts (Calms CalmRestart) = ⊤
AnswersCall Stops (Switches Stopped) = ⊤
AnswersCall Stops (Calms CalmStop) = ⊤
AnswersCall Starts (Switches Started) = ⊤
AnswersCall Starts (Calms CalmStart) = ⊤
AnswersCall (Loses e) (OnWire (wire.Lost d packet)) = d ≡ e
AnswersCall (Loses e) (OnWire (wire.Declines (NothingLost d))) = d ≡ e
AnswersCall Ticks (OnWire (wire.Reset A the_cause.Tick packet lost)) = ⊤
AnswersCall Ticks (Calms CalmTick) = ⊤
AnswersCall (Injects e packet) (OnWire (wire.Injected d put)) = (d ≡ e) × (put ≡ packet)
AnswersCall (Injects e packet) (OnWire (wire.Declines (NotInjected d put))) = (d ≡ e) × (put ≡ packet)
AnswersCall (Injects e packet) (OnWire (wire.Declines (InjectedFull d put))) = (d ≡ e) × (put ≡ packet)
AnswersCall (Pokes e at bytes) (OnWire (wire.Poked d place written)) = (d ≡ e) × (place ≡ at) × (written ≡ bytes)
AnswersCall (Pokes e at bytes) (OnWire (wire.Declines (PokeRefused d place count))) = (d ≡ e) × (place ≡ at) × (count ≡ length bytes)
AnswersCall call _ = ⊥

-- and of one of a port: neither of its ends restarts, stops or starts
abbrev pub AnswersNetCall : Call → NetEvent → Type 0
AnswersNetCall (Resets e) (net.Asked d lost) = d ≡ e
AnswersNetCall (Loses e) (net.Loses d packet) = d ≡ e
AnswersNetCall (Loses e) (net.Declines (NothingLost d)) = d ≡ e
AnswersNetCall Ticks (Ticked queued lost) = ⊤
AnswersNetCall Ticks (CalmPortTick queued) = ⊤
AnswersNetCall (Injects e packet) (net.Injects d put) = (d ≡ e) × (put ≡ packet)
AnswersNetCall (Injects e packet) (net.Declines (NotInjected d put)) = (d ≡ e) × (put ≡ packet)
AnswersNetCall (Injects e packet) (net.Declines (InjectedFull d put)) = (d ≡ e) × (put ≡ packet)
AnswersNetCall (Pokes e at bytes) (net.Pokes d place written) = (d ≡ e) × (place ≡ at) × (written ≡ bytes)
AnswersNetCall (Pokes e at bytes) (net.Declines (PokeRefused d place count)) = (d ≡ e) × (place ≡ at) × (count ≡ length bytes)
AnswersNetCall call _ = ⊥

abbrev pub AnswersPortCall : Call → SwitchEvent → Type 0
AnswersPortCall call (OnPort (OnLane event)) = AnswersNetCall call event
AnswersPortCall call _ = ⊥

-- one event of one disk, and one of one port
pub record OneEntry (k : ℕ) (Answers : DiskEvent → Type 0) (part : List SettleEntry) : Type 0 where
  pub event : DiskEvent
  pub answers : Answers event
  pub is : part ≡ OfLane k event ∷ []

pub record OnePortEntry (k : ℕ) (Answers : SwitchEvent → Type 0) (part : List SettleEntry) : Type 0 where
  pub event : SwitchEvent
  pub answers : Answers event
  pub is : part ≡ OfPort k event ∷ []

-- what comes of a call: one entry, by the kind of its lane
abbrev pub AnswersOnPort : LaneName → Call → List SettleEntry → Type 0
AnswersOnPort (PortLane k) call part = OnePortEntry k (AnswersPortCall call) part
AnswersOnPort lane call part = ⊥

abbrev pub AnswersOn : LaneName → Call → List SettleEntry → Type 0
AnswersOn (DiskLane k) call part = OneEntry k (AnswersCall call) part
AnswersOn lane call part = AnswersOnPort lane call part

-- STEPS, by whose turn it is: a lane and its end
pub record EndTurn : Type 0 where
  pub lane : LaneName
  pub side : End

abbrev pub turn : LaneName → End → EndTurn
turn lane e = record { lane = lane; side = e }

-- the lanes of one kind, so many from this number on
abbrev pub lanes_from : (ℕ → LaneName) → ℕ → ℕ → List LaneName
lanes_from lane k zero = []
lanes_from lane k (suc many) = lane k ∷ lanes_from lane (k + 1) many

-- a turn of each end of these lanes in order: the client's, and then the server's
abbrev pub both_ends : List LaneName → List EndTurn
both_ends [] = []
both_ends (lane ∷ lanes) = turn lane A ∷ turn lane B ∷ both_ends lanes

-- those of a round: over all disks, so many, and then over all ports
abbrev pub turns_over : ℕ → ℕ → List EndTurn
turns_over n m = both_ends (lanes_from DiskLane 0 n) ++ both_ends (lanes_from PortLane 0 m)

abbrev pub round_turns : Lanes → List EndTurn
round_turns w = turns_over (length w.first) (length w.second)

abbrev pub turns_of : ℕ → Lanes → List EndTurn
turns_of zero w = []
turns_of (suc count) w = round_turns w ++ turns_of count w

-- each turn gave the entry of a step, by the kind of its lane, in their order
abbrev pub IsStepOf : LaneName → End → SettleEntry → Type 0
IsStepOf (DiskLane k) side (OfLane j event) = (j ≡ k) × IsStep side event
IsStepOf (PortLane k) side (OfPort j event) = (j ≡ k) × IsPortStep side event
IsStepOf lane side _ = ⊥

abbrev pub AreSteps : List EndTurn → List SettleEntry → Type 0
AreSteps [] [] = ⊤
AreSteps (next ∷ turns) (entry ∷ part) = IsStepOf next.lane next.side entry × AreSteps turns part
AreSteps _ _ = ⊥

-- and so far a front of them: where a turn was made, another is left
pub record AreFirstSteps (turns : List EndTurn) (part : List SettleEntry) : Type 0 where
  pub made : List EndTurn
  pub left : List EndTurn
  pub turns_are : turns ≡ made ++ left
  pub another : left ≡ [] → part ≡ []
  pub steps : AreSteps made part

-- THE PART OF A LINE, over the lanes before it and those after it
abbrev pub PartOf : Line → Lanes → List SettleEntry → Lanes → Type 0
PartOf Nothing w part behind = part ≡ []
PartOf (Asked k request) w part behind = OneEntry k (AnswersRequest request) part
PartOf (Sends k frame) w part behind = OnePortEntry k (AnswersFrame frame) part
PartOf (Joins k address) w part behind = OnePortEntry k (AnswersGroup address) part
PartOf (Steps lane e count) w part behind = AreSteps (replicate count (turn lane e)) part
PartOf (Rounds count) w part behind = AreSteps (turns_of count w) part
PartOf Settles w part behind = SettlePart lanes w part behind
PartOf (Calls lane call) w part behind = AnswersOn lane call part

-- A FRONT OF IT, where memory was wanted
abbrev pub fronts : Fronts Lanes (Two (List Bool) (List Bool)) SettleEntry
fronts = both_fronts disks disk_fronts (fronts_of ports port_entries)

abbrev pub BeginsPart : Line → Lanes → List SettleEntry → Lanes → Type 0
BeginsPart (Steps lane e count) w part behind = AreFirstSteps (replicate count (turn lane e)) part
BeginsPart (Rounds count) w part behind = AreFirstSteps (turns_of count w) part
BeginsPart Settles w part behind = SettleFront lanes fronts w part behind
BeginsPart line w part behind = part ≡ []

-- A LINE with its part leads the world from one state to another, and so does a front of it
pub record LineMoves (w : DomainState) (line : Line) (part : List SettleEntry) (v : DomainState) : Type 0 where
  pub part_of : PartOf line (lanes_in w) part (lanes_in v)
  pub run : Run DomainStep w part v

pub record LineBegins (w : DomainState) (line : Line) (part : List SettleEntry) (v : DomainState) : Type 0 where
  pub begins : BeginsPart line (lanes_in w) part (lanes_in v)
  pub run : Run DomainStep w part v

-- A SCRIPT: line by line, each with its part of the journal
abbrev pub LineStep : DomainState → Line × List SettleEntry → DomainState → Type 0
LineStep w line v = LineMoves w line.0 line.1 v

-- the journal of a script: the parts of its lines, one after the other
abbrev pub entries_of_lines : List (Line × List SettleEntry) → List SettleEntry
entries_of_lines lines = flat_map (λ (line : Line × List SettleEntry). line.1) lines
