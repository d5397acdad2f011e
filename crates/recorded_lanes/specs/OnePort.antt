-- One event of one port, and what it leaves in the journal.
use Rattle.std.specs.Prelude.{◌≡◌, ℕ, Bool, true, false, ◌&&◌, List, Option, Some, None, ⊤}
use Rattle.ldc_queue.specs.declared.end.End.{End}
use Rattle.switched_ports.specs.net_lane.net_out.NetOut.{NetOut}
use Rattle.switched_ports.specs.net_lane.net_out.NetOut.TheVariants as out
use Rattle.world_parts.specs.domain_laws.Domain.{PortsStep}
use Rattle.world_parts.specs.lane_models.PortState.{PortState}
use Rattle.world_parts.specs.domain_laws.Lines.{Line}
use Rattle.world_parts.specs.switch_laws.Events.{SwitchEvent}
use Rattle.world_parts.specs.switch_laws.Ports.{IsStepOf, is_calm, is_silent}
use Rattle.switched_ports.specs.Given.{GivesNoMore, GivesOneMore}
use Rattle.world_parts.specs.world_laws.Settle.{OfPort}
use Rattle.ldom_entries.specs.JournalState.{JournalState, PutsEntry}
use Rattle.domain_script.specs.declared.event.EndName.{EndName}
use Rattle.domain_script.specs.declared.fields.LaneKind.{LaneKind}
use Rattle.domain_script.specs.declared.fields.LaneKind.TheVariants as kinds
use Rattle.kept_requests.specs.Bytes.{BytesState}
use Rattle.ldom_entries.specs.declared.entry.Entry.{Entry}
use Rattle.ldom_entries.specs.declared.entry.Entry.TheVariants as the_entry
use Rattle.switched_ports.specs.vnet_switch.declared.forwarding.Switched.{Switched as Sets}
use Rattle.ldom_report.specs.Report.{is_accepted}
use Rattle.recorded_lanes.specs.declared.calls.LaneCall.{LaneCall}
use Rattle.recorded_lanes.specs.declared.calls.LaneCall.TheVariants as lane
use Rattle.world_parts.specs.WorldEvents.{told_of, world_event}

-- AN ENTRY TELLS an event of a port in the part of this line, and of no accepted request
pub record TellsPort (line : Line) (k : ℕ) (event : SwitchEvent) (entry : Entry) : Type 0 where
  pub says : world_event line entry ≡ Some (told_of (OfPort k event))
  pub none : is_accepted entry ≡ false

-- AN EVENT WAS RECORDED: an entry was put last that tells it, whatever line it is in
pub record PortRecords (k : ℕ) (event : SwitchEvent) (s t : JournalState) : Type 0 where
  pub entry : Entry
  pub puts : PutsEntry s entry t
  pub tells : (line : Line) → TellsPort line k event entry

-- or nothing was, where it is left out
abbrev pub PortRecordedBut : Bool → ℕ → SwitchEvent → JournalState → JournalState → Type 0
PortRecordedBut true k event s t = t ≡ s
PortRecordedBut false k event s t = PortRecords k event s t

-- WHAT A STEP LEAVES in the journal, in a settle or not: there one that idles is left out; and whether it was calm
pub record PortLeaves (in_settle : Bool) (k : ℕ) (event : SwitchEvent) (s : JournalState) (calm : Bool)
    (t : JournalState) : Type 0 where
  pub calm_is : calm ≡ is_calm event
  pub recorded : PortRecordedBut (in_settle && is_silent event) k event s t

-- no end was given a frame where nothing is left, and else one at most
abbrev pub GivesBut : Bool → List PortState → List PortState → Type 0
GivesBut true w v = GivesNoMore w v
GivesBut false w v = GivesOneMore w v

-- A STEP OF AN END of a port, with what it leaves in the journal
pub record PortEndSteps (in_settle : Bool) (k : ℕ) (e : End) (w : List PortState) (old : JournalState) (calm : Bool)
    (new : JournalState) (v : List PortState) : Type 0 where
  pub event : SwitchEvent
  pub of_end : IsStepOf e event
  pub moves : PortsStep w (OfPort k event) v
  pub leaves : PortLeaves in_settle k event old calm new
  pub gives : GivesBut (in_settle && is_silent event) w v

-- WHAT A LINE ASKED of a port came to, and the entry of it
pub record PortAnswers (line : Line) (k : ℕ) (Answers : SwitchEvent → Type 0) (w : List PortState) (entry : Entry)
    (v : List PortState) : Type 0 where
  pub event : SwitchEvent
  pub answers : Answers event
  pub moves : PortsStep w (OfPort k event) v
  pub tells : TellsPort line k event entry
  pub gives : GivesOneMore w v

-- and its entry was put last
pub record RecordsPortAnswer (line : Line) (k : ℕ) (Answers : SwitchEvent → Type 0) (w : List PortState)
    (old new : JournalState) (v : List PortState) : Type 0 where
  pub entry : Entry
  pub puts : PutsEntry old entry new
  pub answer : PortAnswers line k Answers w entry v

-- an end had nothing to do, and found no room for its packet
abbrev pub port_rests : NetOut → Bool
port_rests out.Idle = true
port_rests _ = false

abbrev pub port_blocked : NetOut → Bool
port_blocked out.Blocked = true
port_blocked _ = false

-- a call of a port: neither of its ends restarts, stops or starts
abbrev pub IsPortCall : LaneCall → Type 0
IsPortCall lane.Restart = ⊥
IsPortCall lane.Stop = ⊥
IsPortCall lane.Start = ⊥
IsPortCall _ = ⊤

-- and one of a lane, by its kind
abbrev pub IsCallOf : LaneKind → LaneCall → Type 0
IsCallOf kinds.Port call = IsPortCall call
IsCallOf _ call = ⊤

-- the entry of a frame that an end took: a guest, or the switch, with the ports that it is for
abbrev pub frame_entry : EndName → Option Sets → BytesState → Entry
frame_entry e (Some sets) bytes = the_entry.Switched e sets.out sets.full bytes
frame_entry e None bytes = the_entry.Frame e bytes
