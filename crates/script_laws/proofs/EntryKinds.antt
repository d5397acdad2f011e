-- What an entry says of the requests of disks, and what the same entry is for their lanes: four kinds of entry are of
-- requests, and all others are silent.
use Rattle.std.proofs.Common.{◌≡◌, ◌⊎◌, inl, inr, ℕ, ◌==◌, Bool, true, false, length, take, Option, Some, None, refl, sym, ap, ◌∙◌, subst}
use Rattle.std.specs.Prelude.{⊤}
use Rattle.std.proofs.lemmas.Bool.{eqb-true}
use Rattle.vdisk_msg.specs.declared.request.Request.{Request}
use Rattle.disk_law.specs.ListStep as plain
use Rattle.world_parts.specs.lane_models.WireEvent.{Declined, Declines, InjectedFull, PokeRefused}
use Rattle.world_parts.specs.lane_models.DiskEvent.{Accepted, Asks, DiskEvent, Done, Full, OnWire, Refused, Works}
use Rattle.disk_law.specs.Requests.{Defect}
use Rattle.world_parts.specs.lane_models.NetEndStep.{BadLength, GroupsFull}
use Rattle.world_parts.specs.lane_models.NetEndStep as net_end
use Rattle.world_parts.specs.lane_models.NetEvent.{Gives, Joins as JoinsGroup, NetEvent}
use Rattle.world_parts.specs.world_laws.Settle.{OfLane, SettleEntry}
use Rattle.domain_script.specs.declared.event.Event.{Event}
use Rattle.domain_script.specs.declared.event.Event.TheVariants as line
use Rattle.domain_script.specs.declared.event.Lane.{Lane}
use Rattle.domain_script.specs.declared.fields.LaneKind.{LaneKind}
use Rattle.domain_script.specs.declared.fields.LaneKind.TheVariants as kinds
use Rattle.domain_script.specs.LaneKinds.{disk_of, if_disk, if_port, port_of}
use Rattle.kept_requests.specs.Bytes.{BytesState}
use Rattle.ldom_entries.specs.declared.entry.Entry.{Entry}
use Rattle.ldom_entries.specs.declared.entry.Entry.TheVariants as entry
use Rattle.ldom_entries.specs.declared.entry.Who.{Who}
use Rattle.ldom_entries.specs.declared.entry.Who.TheVariants.{Lane as OfWhole, End as OfEnd}
use Rattle.ldom_entries.specs.declared.entry.Why.{Why}
use Rattle.ldom_entries.specs.declared.entry.Why.TheVariants.{Groups, Length, Range}
use Rattle.domain_script.specs.declared.event.EndName.{EndName}
use Rattle.ldc_queue.specs.declared.end.End.{End}
use Rattle.ldc_queue.specs.declared.end.End.TheVariants.{A}
use Rattle.world_parts.specs.domain_laws.Lines.{Asked, Call, Calls, DiskLane, Injects, Joins, LaneName, Line, Pokes, PortLane, Sends}
use Rattle.ldom_report.specs.DiskEvents.{BecameOf, Defective, NoRoom, NotTaken, Nothing, Refusal, defect_of, not_taken_for, not_taken_on, refused, request_asked, said}
use Rattle.ldom_report.specs.LaneEvents.{AtLane, AtPort, AtServer, AtWire, ChangesNothing, LeavesNothing, LeavesOver, Meaning, NoRoomFor, Publishes, Refuses, Switches, TakesFrame, meaning}
use Rattle.world_parts.specs.WorldEvents.{at_disk, at_port, declined_at, full_call, full_event, if_so, is_end, is_lane, of_net, on_channel, port_declined, refused_asked, refused_call, refused_event, world_event}
use Rattle.world_parts.specs.world_laws.Failures.{is_failed_done}
use Rattle.world_parts.specs.Lines.{line_of}
use Rattle.world_parts.specs.world_laws.Requests.{request_event}
use Rattle.script_laws.specs.Failures.{has_failed}
use Rattle.world_parts.proofs.Meanings.{AllOf, Holds, all_events, all_left, entry_has}

-- what a journal tells of a disk whatever its lines asked: which requests were accepted and completed
abbrev pub kept : plain.ListEvent → Option plain.ListEvent
kept (plain.Accepted id request) = Some (plain.Accepted id request)
kept (plain.Full request) = None
kept (plain.Refused why request) = None
kept (plain.Done id operation status bytes) = Some (plain.Done id operation status bytes)
kept plain.Rested = None

-- AN ENTRY OF A DISK, whatever was asked: a request was accepted, or completed
pub record AtDisk (entry : Entry) (means : SettleEntry) : Type 0 where
  pub disk : ℕ
  pub event : DiskEvent
  pub seen : plain.ListEvent
  pub means_is : means ≡ OfLane disk event
  pub said_is : said entry ≡ BecameOf disk seen
  pub sees : request_event event ≡ Some seen
  pub keeps : kept seen ≡ Some seen
  pub failed : is_failed_done event ≡ has_failed seen

-- the request of the entry's line wasn't taken up
pub record NotTakenUp (asked : Event) (entry : Entry) (means : SettleEntry) : Type 0 where
  pub disk : ℕ
  pub event : DiskEvent
  pub refusal : Refusal
  pub request : Request
  pub means_is : means ≡ OfLane disk event
  pub asked_is : request_asked asked ≡ Some request
  pub said_is : said entry ≡ NotTaken disk refusal
  pub sees : request_event event ≡ Some (refused refusal request)
  pub failed : is_failed_done event ≡ false

-- an entry that says nothing of requests
abbrev pub SaysNothing : SettleEntry → Type 0
SaysNothing (OfLane k event) = (request_event event ≡ None) × (is_failed_done event ≡ false)
SaysNothing _ = ⊤

pub record IsSilent (entry : Entry) (means : SettleEntry) : Type 0 where
  pub said_is : said entry ≡ Nothing
  pub nothing : SaysNothing means

abbrev pub Kind : Event → Entry → SettleEntry → Type 0
Kind asked entry means = AtDisk entry means ⊎ (NotTakenUp asked entry means ⊎ IsSilent entry means)

-- WHAT IS TOLD is the one that is meant
some_is : (x m : SettleEntry) → Some x ≡ Some m → m ≡ x
some_is x m is = cc is

-- of the lane with this number
named_is : (j k : ℕ) (same : Bool) (f : ℕ → SettleEntry) (m : SettleEntry) → (j == k) ≡ same → if_so same (f j) ≡ Some m → m ≡ f k
named_is j k true f m same is = let one : m ≡ f j = cc is in one ∙ ap f (eqb-true j k same)
named_is j k false f m same is = absurd (cc is)

if_is : (b : Bool) (x m : SettleEntry) → if_so b x ≡ Some m → m ≡ x
if_is true x m is = cc is
if_is false x m is = absurd (cc is)

-- whether an event of a lane is of a request, and so whether a meaning is
abbrev of_request : DiskEvent → Bool
of_request (Asks event) = true
of_request (Works (Done id operation status bytes)) = true
of_request event = false

abbrev means_request : Meaning → Bool
means_request (AtServer e event) = of_request event
means_request (AtLane k event) = of_request event
means_request (NoRoomFor who) = true
means_request (Refuses who why) = true
means_request other = false

-- WHAT IS NOT OF A REQUEST says nothing of requests
event_silent : (event : DiskEvent) → of_request event ≡ false
    → (request_event event ≡ None) × (is_failed_done event ≡ false)
event_silent (Asks event) none = absurd (cc none)
event_silent (Works (Done id operation status bytes)) none = absurd (cc none)
event_silent event none = (refl, refl)

abbrev OfNone : DiskEvent → Type 0
OfNone event = of_request event ≡ false

of_events : (x : Meaning) → AllOf OfNone x → Holds SaysNothing x
of_events x all =
    all_events SaysNothing OfNone (record { of_disk = λ k event none. event_silent event none; of_port = λ k event. tt }) x all

silent : (x : Meaning) → means_request x ≡ false → Holds SaysNothing x
silent (AtWire e event) none = of_events (AtWire e event) refl
silent (AtServer e event) none = of_events (AtServer e event) none
silent (AtLane k event) none = of_events (AtLane k event) none
silent (AtPort k gets) none = of_events (AtPort k gets) tt
silent (Publishes e id) none = of_events (Publishes e id) refl
silent (TakesFrame e frame) none = of_events (TakesFrame e frame) tt
silent (Switches e frame out full) none = of_events (Switches e frame out full) tt
silent (NoRoomFor who) none = absurd (cc none)
silent (Refuses who why) none = absurd (cc none)
silent (ChangesNothing who) none = of_events (ChangesNothing who) (λ calm. refl, λ d. refl)
silent (LeavesOver who) none = all_left SaysNothing who (λ k. tt) (λ k. tt)
silent LeavesNothing none = tt

-- A REQUEST THAT ISN'T TAKEN UP is that of its line
full_on : (j : ℕ) (request : Request) (lane : Lane) (o : Option ℕ) (m : SettleEntry) → disk_of lane ≡ o
    → at_disk j o (Asks (Full request)) ≡ Some m → NotTakenUp (line.Issue j request) (entry.Full (OfWhole lane)) m
full_on j request lane None m at is = absurd (cc is)
full_on j request lane (Some k) m at is = record {
  disk = k;
  event = Asks (Full request);
  refusal = NoRoom;
  request = request;
  means_is = named_is j k (j == k) (λ n. OfLane n (Asks (Full request))) m refl is;
  asked_is = refl;
  said_is = ap (λ (x : Option ℕ). not_taken_on x NoRoom) at;
  sees = refl;
  failed = refl;
}

-- a call of an end that came to nothing says nothing of requests, and no entry of a port does
port_declined_silent : (name : LaneName) (e : End) (at : EndName) (d : Declined) (m : SettleEntry) → port_declined name e at d ≡ Some m
    → SaysNothing m
port_declined_silent (PortLane j) e at d m is =
    subst SaysNothing (sym (if_is (is_end (PortLane j) e at) (of_net j (on_channel (Declines d))) m is)) tt
port_declined_silent name e at d m is = absurd (cc is)

declined_silent : (name : LaneName) (e : End) (at : EndName) (d : Declined) (m : SettleEntry) → declined_at name e at d ≡ Some m
    → SaysNothing m
declined_silent (DiskLane j) e at d m is =
    subst SaysNothing (sym (if_is (is_end (DiskLane j) e at) (OfLane j (OnWire (Declines d))) m is)) (refl, refl)
declined_silent name e at d m is = port_declined_silent name e at d m is

port_silent : (j : ℕ) (o : Option ℕ) (event : NetEvent) (m : SettleEntry) → at_port j o event ≡ Some m → SaysNothing m
port_silent j o event m is = subst SaysNothing (sym (if_is (is_lane j o) (of_net j event) m is)) tt

full_silent : (name : LaneName) (call : Call) (at : EndName) (m : SettleEntry) → full_call name call at ≡ Some m → SaysNothing m
full_silent name (Injects e packet) at m is = declined_silent name e at (InjectedFull e packet) m is
full_silent name call at m is = absurd (cc is)

full_line : (asked : Line) (at : EndName) (m : SettleEntry) → full_event asked (OfEnd at) ≡ Some m → SaysNothing m
full_line (Calls name call) at m is = full_silent name call at m is
full_line asked at m is = absurd (cc is)

-- of a whole lane it is told only where the line asks one
abbrev IsAsked : Line → Type 0
IsAsked (Asked j request) = ⊤
IsAsked (Sends j frame) = ⊤
IsAsked (Joins j address) = ⊤
IsAsked _ = ⊥

full_whole : (asked : Line) (lane : Lane) (m : SettleEntry) → full_event asked (OfWhole lane) ≡ Some m → IsAsked asked
full_whole (Asked j request) lane m is = tt
full_whole (Sends j frame) lane m is = tt
full_whole (Joins j address) lane m is = tt
full_whole (Calls name call) lane m is = absurd (cc is)
full_whole asked lane m is = absurd (cc is)

-- a frame that found no room is of a port, and so of no disk
frame_silent : (kind : LaneKind) (n j : ℕ) (event : NetEvent) (m : SettleEntry) → at_port j (if_port kind n) event ≡ Some m
    → not_taken_on (if_disk kind n) NoRoom ≡ Nothing
frame_silent kinds.Port n j event m is = refl
frame_silent _ n j event m is = absurd (cc is)

full_kind : (asked : Event) (who : Who) (m : SettleEntry) → full_event (line_of asked) who ≡ Some m
    → NotTakenUp asked (entry.Full who) m ⊎ IsSilent (entry.Full who) m
full_kind (line.Issue j request) (OfWhole lane) m is = inl (full_on j request lane (disk_of lane) m refl is)
full_kind (line.Send port frame) (OfWhole lane) m is =
    let event : NetEvent = Gives A (net_end.Full (take frame.len frame.bytes)) in
    inr (record {
      said_is = frame_silent lane.kind lane.number port event m is;
      nothing = port_silent port (port_of lane) event m is;
    })
full_kind (line.Join port address) (OfWhole lane) m is = absurd (cc is)
full_kind asked (OfEnd at) m is = inr (record { said_is = refl; nothing = full_line (line_of asked) at m is })
full_kind asked (OfWhole lane) m is = absurd (full_whole (line_of asked) lane m is)

refused_on : (j : ℕ) (request : Request) (lane : Lane) (why : Why) (defect : Defect) (o : Option ℕ) (m : SettleEntry)
    → defect_of why ≡ Some defect → disk_of lane ≡ o → at_disk j o (Asks (Refused defect request)) ≡ Some m
    → NotTakenUp (line.Issue j request) (entry.Refused (OfWhole lane) why) m
refused_on j request lane why defect None m same at is = absurd (cc is)
refused_on j request lane why defect (Some k) m same at is = record {
  disk = k;
  event = Asks (Refused defect request);
  refusal = Defective defect;
  request = request;
  means_is = named_is j k (j == k) (λ n. OfLane n (Asks (Refused defect request))) m refl is;
  asked_is = refl;
  said_is = ap (λ (d : Option Defect). not_taken_for (OfWhole lane) d) same
      ∙ ap (λ (x : Option ℕ). not_taken_on x (Defective defect)) at;
  sees = refl;
  failed = refl;
}

refused_by : (j : ℕ) (request : Request) (lane : Lane) (why : Why) (defect : Option Defect) (m : SettleEntry) → defect_of why ≡ defect
    → refused_asked j request lane defect ≡ Some m → NotTakenUp (line.Issue j request) (entry.Refused (OfWhole lane) why) m
refused_by j request lane why None m same is = absurd (cc is)
refused_by j request lane why (Some defect) m same is = refused_on j request lane why defect (disk_of lane) m same refl is

refused_silent : (name : LaneName) (call : Call) (at : EndName) (why : Why) (m : SettleEntry) → refused_call name call at why ≡ Some m
    → SaysNothing m
refused_silent name (Pokes e at bytes) end Range m is = declined_silent name e end (PokeRefused e at (length bytes)) m is
refused_silent name call at why m is = absurd (cc is)

refused_line : (asked : Line) (at : EndName) (why : Why) (m : SettleEntry) → refused_event asked (OfEnd at) why ≡ Some m
    → SaysNothing m
refused_line (Calls name call) at why m is = refused_silent name call at why m is
refused_line asked at why m is = absurd (cc is)

refused_whole : (asked : Line) (lane : Lane) (why : Why) (m : SettleEntry)
    → refused_event asked (OfWhole lane) why ≡ Some m → IsAsked asked
refused_whole (Asked j request) lane why m is = tt
refused_whole (Sends j frame) lane why m is = tt
refused_whole (Joins j address) lane why m is = tt
refused_whole (Calls name call) lane why m is = absurd (cc is)
refused_whole asked lane why m is = absurd (cc is)

-- the end of a call says nothing of requests, whyever it was refused
end_unsaid : (at : EndName) (defect : Option Defect) → not_taken_for (OfEnd at) defect ≡ Nothing
end_unsaid at None = refl
end_unsaid at (Some defect) = refl

refused_kind : (asked : Event) (who : Who) (why : Why) (m : SettleEntry) → refused_event (line_of asked) who why ≡ Some m
    → NotTakenUp asked (entry.Refused who why) m ⊎ IsSilent (entry.Refused who why) m
refused_kind (line.Issue j request) (OfWhole lane) why m is = inl (refused_by j request lane why (defect_of why) m refl is)
refused_kind (line.Send port frame) (OfWhole lane) Length m is =
    inr (record { said_is = refl; nothing = port_silent port (port_of lane) (Gives A (BadLength (take frame.len frame.bytes))) m is })
refused_kind (line.Send port frame) (OfWhole lane) why m is = absurd (cc is)
refused_kind (line.Join port address) (OfWhole lane) Groups m is =
    inr (record { said_is = refl; nothing = port_silent port (port_of lane) (JoinsGroup (GroupsFull address)) m is })
refused_kind (line.Join port address) (OfWhole lane) why m is = absurd (cc is)
refused_kind asked (OfEnd at) why m is =
    inr (record { said_is = end_unsaid at (defect_of why); nothing = refused_line (line_of asked) at why m is })
refused_kind asked (OfWhole lane) why m is = absurd (refused_whole (line_of asked) lane why m is)

-- one that was
accepted_kind : (k id : ℕ) (request : Request) (m : SettleEntry) → Some (OfLane k (Asks (Accepted id request))) ≡ Some m
    → AtDisk (entry.Accepted k id request) m
accepted_kind k id request m is = record {
  disk = k;
  event = Asks (Accepted id request);
  seen = plain.Accepted id request;
  means_is = some_is (OfLane k (Asks (Accepted id request))) m is;
  said_is = refl;
  sees = refl;
  keeps = refl;
  failed = refl;
}

done_kind : (k id operation status : ℕ) (bytes : BytesState) (m : SettleEntry)
    → Some (OfLane k (Works (Done id operation status bytes.items))) ≡ Some m
    → AtDisk (entry.Done k id operation status bytes) m
done_kind k id operation status bytes m is = record {
  disk = k;
  event = Works (Done id operation status bytes.items);
  seen = plain.Done id operation status bytes.items;
  means_is = some_is (OfLane k (Works (Done id operation status bytes.items))) m is;
  said_is = refl;
  sees = refl;
  keeps = refl;
  failed = refl;
}

-- EACH ENTRY is of one of these kinds
pub kind_of : (asked : Event) (e : Entry) (m : SettleEntry) → world_event (line_of asked) e ≡ Some m → Kind asked e m
kind_of asked (entry.Accepted k id request) m is = inl (accepted_kind k id request m is)
kind_of asked (entry.Full who) m is = inr (full_kind asked who m is)
kind_of asked (entry.Refused who why) m is = inr (refused_kind asked who why m is)
kind_of asked (entry.Done k id operation status bytes) m is = inl (done_kind k id operation status bytes m is)
kind_of asked e m is =
    let nothing = entry_has SaysNothing (line_of asked) e m (silent (meaning e) refl) is in
    inr (inr (record { said_is = refl; nothing = nothing }))
