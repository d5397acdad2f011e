-- Entry by entry: a report says of an entry of the journal what it says of the entry of a lane that it is. Of most it
-- says nothing.
use Rattle.std.proofs.Common.{◌≡◌, ℕ, Bool, true, false, Option, Some, List, [], ◌∷◌, map, refl, subst}
use Rattle.vio_tag.specs.declared.cause.Cause.{Cause}
use Rattle.std.specs.Prelude.{⊤}
use Rattle.ldc_queue.specs.declared.end.End.TheVariants.{A}
use Rattle.vdisk_msg.specs.Requests.{BadCount, BadRange}
use Rattle.world_parts.specs.lane_models.WireEvent.{Reset}
use Rattle.world_parts.specs.lane_models.DiskEvent.{Asks, DiskEvent, Done, Full, OnWire, Refused, Works}
use Rattle.domain_script.specs.declared.event.DiskDecl.{DiskDecl}
use Rattle.domain_script.specs.declared.event.Lane.{Lane}
use Rattle.domain_script.specs.declared.event.Side.{Side}
use Rattle.domain_script.specs.declared.event.Side.TheVariants.{Client, Server}
use Rattle.world_parts.specs.world_laws.Settle.{OfLane, OfPort, SettleEntry, UnsettledPort}
use Rattle.world_parts.specs.lane_models.NetEndStep.{Frame}
use Rattle.world_parts.specs.lane_models.NetEvent.{Steps}
use Rattle.world_parts.specs.switch_laws.Events.{Switched}
use Rattle.world_parts.proofs.domain_laws.LineEntries.{EachEntry}
use Rattle.world_parts.specs.domain_laws.Lines.{Asked, Calls, Joins, Line, Sends}
use Rattle.world_parts.specs.domain_laws.Quiet.{IsQuiet}
use Rattle.domain_script.specs.LaneKinds.{disk_of}
use Rattle.ldom_report.specs.LaneEvents.{AtLane, AtPort, AtServer, AtWire, ChangesNothing, Meaning, NoRoomFor, Publishes, Refuses, end_of, meaning}
use Rattle.world_parts.specs.WorldEvents.{full_event, of_net, refused_event, told_of, wire_event, world_event}
use Rattle.ldom_entries.specs.declared.entry.Entry.{Entry}
use Rattle.ldom_entries.specs.declared.entry.Entry.TheVariants as entry
use Rattle.ldom_entries.specs.declared.entry.Who.{Who}
use Rattle.ldom_entries.specs.declared.entry.Why.{Why}
use Rattle.ldom_entries.specs.declared.entry.Who.TheVariants.{Lane as OfWhole, End as OfEnd}
use Rattle.ldom_entries.specs.declared.entry.Why.TheVariants.{Count, Groups, Length, Range}
use Rattle.script_laws.proofs.LaneReport.{SaysSame, says_append}
use Rattle.world_parts.specs.Parts.{PartSays}
use Rattle.world_parts.proofs.Meanings.{AllOf, Has, Holds, all_events, at_has, entry_has, lane_has, left_has, port_has, wire_has}

-- an entry says the same as this one of a disk's lane, or that a settle ended
abbrev SameAs : DiskDecl → Entry → SettleEntry → Type 0
SameAs disk e (OfPort k event) = ⊤
SameAs disk e (UnsettledPort k) = ⊤
SameAs disk e x = SaysSame disk (e ∷ []) (x ∷ [])

-- whether a report tells of an event of a lane, and so of a meaning
abbrev is_told : DiskEvent → Bool
is_told (Asks event) = true
is_told (Works (Done id operation status bytes)) = true
is_told (OnWire (Reset e cause packet lost)) = true
is_told event = false

abbrev tells : Meaning → Bool
tells (AtWire e event) = is_told (OnWire event)
tells (AtServer e event) = is_told event
tells (AtLane k event) = is_told event
tells (AtPort k gets) = false
tells (Publishes e id) = false
tells (ChangesNothing who) = false
tells other = true

-- AN ENTRY OF WHICH A REPORT TELLS NOTHING, nor of what it means
untold_same : (disk : DiskDecl) (e : Entry) (k : ℕ) (event : DiskEvent) → SaysSame disk (e ∷ []) []
    → is_told event ≡ false → SameAs disk e (OfLane k event)
untold_same disk e k (Asks event) nothing none = absurd (cc none)
untold_same disk e k (Works (Done id operation status bytes)) nothing none = absurd (cc none)
untold_same disk e k (OnWire (Reset end cause packet lost)) nothing none = absurd (cc none)
untold_same disk e k event nothing none = says_append disk (e ∷ []) [] [] (OfLane k event ∷ []) nothing (refl, refl)

abbrev Untold : DiskEvent → Type 0
Untold event = is_told event ≡ false

of_events : (disk : DiskDecl) (e : Entry) (x : Meaning) → SaysSame disk (e ∷ []) [] → AllOf Untold x → Holds (SameAs disk e) x
of_events disk e x nothing all =
    all_events (SameAs disk e) Untold
    (record { of_disk = λ k event none. untold_same disk e k event nothing none; of_port = λ k event. tt }) x all

quiet_same : (disk : DiskDecl) (e : Entry) (x : Meaning) → SaysSame disk (e ∷ []) [] → tells x ≡ false
    → Holds (SameAs disk e) x
quiet_same disk e (AtWire name event) nothing none = of_events disk e (AtWire name event) nothing none
quiet_same disk e (AtServer name event) nothing none = of_events disk e (AtServer name event) nothing none
quiet_same disk e (AtLane k event) nothing none = of_events disk e (AtLane k event) nothing none
quiet_same disk e (AtPort k gets) nothing none = of_events disk e (AtPort k gets) nothing tt
quiet_same disk e (Publishes name id) nothing none = of_events disk e (Publishes name id) nothing refl
quiet_same disk e (ChangesNothing who) nothing none = of_events disk e (ChangesNothing who) nothing (λ calm. refl, λ d. refl)
quiet_same disk e x nothing none = absurd (cc none)

-- a reset, by its end
reset_same : (disk : DiskDecl) (lane : Lane) (side : Side) (cause : Cause) (packet : Option (List ℕ)) (lost : ℕ)
    → Has (SameAs disk (entry.Reset (record { lane = lane; side = side }) cause packet lost))
    (wire_event lane (Reset (end_of side) cause packet lost))
reset_same disk lane Client cause packet lost =
    wire_has (λ l. SameAs disk (entry.Reset (record { lane = l; side = Client }) cause packet lost))
    (Reset (end_of Client) cause packet lost) lane (λ k. (refl, refl)) (λ k. tt)
reset_same disk lane Server cause packet lost =
    wire_has (λ l. SameAs disk (entry.Reset (record { lane = l; side = Server }) cause packet lost))
    (Reset (end_of Server) cause packet lost) lane (λ k. (refl, refl)) (λ k. tt)

-- EACH ENTRY, by what it means, but for a request that found no room or was refused
abbrev of_request : Meaning → Bool
of_request (NoRoomFor who) = true
of_request (Refuses who why) = true
of_request other = false

entry_same : (disk : DiskDecl) (e : Entry) → of_request (meaning e) ≡ false → Holds (SameAs disk e) (meaning e)
entry_same disk (entry.Accepted k id request) none = (refl, refl)
entry_same disk (entry.Full who) none = absurd (cc none)
entry_same disk (entry.Refused who why) none = absurd (cc none)
entry_same disk entry.Settled none = (refl, refl)
entry_same disk (entry.Unsettled (OfWhole lane)) none =
    left_has (λ l. SameAs disk (entry.Unsettled (OfWhole l))) (OfWhole lane) (λ k. (refl, refl)) (λ k. tt)
entry_same disk (entry.Unsettled (OfEnd e)) none = tt
entry_same disk (entry.Done k id operation status bytes) none = (refl, refl)
entry_same disk (entry.Frame e bytes) none =
    port_has (λ l. SameAs disk (entry.Frame e bytes)) (λ k. of_net k (Steps A (Frame bytes.items))) e.lane (λ k. tt)
entry_same disk (entry.Switched e out full bytes) none =
    port_has (λ l. SameAs disk (entry.Switched e out full bytes)) (λ k. OfPort k (Switched bytes.items out full)) e.lane (λ k. tt)
entry_same disk (entry.Reset e cause packet lost) none = reset_same disk e.lane e.side cause packet lost
entry_same disk e none = quiet_same disk e (meaning e) (refl, refl) refl

-- one that did, in the part of a line that calls no lane
full_same : (disk : DiskDecl) (line : Line) (who : Who) (x : SettleEntry) → IsQuiet line
    → full_event line who ≡ Some x → SameAs disk (entry.Full who) x
full_same disk (Asked j request) (OfWhole lane) x quiet is =
    subst (Has (SameAs disk (entry.Full (OfWhole lane)))) is
    (at_has (SameAs disk (entry.Full (OfWhole lane))) j (disk_of lane) (λ k. OfLane k (Asks (Full request)))
    (lane_has (λ l. SameAs disk (entry.Full (OfWhole l))) (λ k. OfLane k (Asks (Full request))) lane
    (λ k. (refl, refl))))
full_same disk (Calls lane call) who x quiet is = absurd quiet
full_same disk (Sends j frame) who x quiet is = absurd quiet
full_same disk line who x quiet is = absurd (cc is)

refused_same : (disk : DiskDecl) (line : Line) (who : Who) (why : Why) (x : SettleEntry) → IsQuiet line
    → refused_event line who why ≡ Some x → SameAs disk (entry.Refused who why) x
refused_same disk (Asked j request) (OfWhole lane) Count x quiet is =
    subst (Has (SameAs disk (entry.Refused (OfWhole lane) Count))) is
    (at_has (SameAs disk (entry.Refused (OfWhole lane) Count)) j (disk_of lane) (λ k. OfLane k (Asks (Refused BadCount request)))
    (lane_has (λ l. SameAs disk (entry.Refused (OfWhole l) Count))
    (λ k. OfLane k (Asks (Refused BadCount request))) lane (λ k. (refl, refl))))
refused_same disk (Asked j request) (OfWhole lane) Range x quiet is =
    subst (Has (SameAs disk (entry.Refused (OfWhole lane) Range))) is
    (at_has (SameAs disk (entry.Refused (OfWhole lane) Range)) j (disk_of lane) (λ k. OfLane k (Asks (Refused BadRange request)))
    (lane_has (λ l. SameAs disk (entry.Refused (OfWhole l) Range))
    (λ k. OfLane k (Asks (Refused BadRange request))) lane (λ k. (refl, refl))))
refused_same disk (Asked j request) (OfWhole lane) Length x quiet is = absurd (cc is)
refused_same disk (Asked j request) (OfWhole lane) Groups x quiet is = absurd (cc is)
refused_same disk (Calls lane call) who why x quiet is = absurd quiet
refused_same disk (Sends j frame) who why x quiet is = absurd quiet
refused_same disk (Joins j address) who why x quiet is = absurd quiet
refused_same disk line who why x quiet is = absurd (cc is)

one_same : (disk : DiskDecl) (line : Line) (e : Entry) (x : SettleEntry) → IsQuiet line → world_event line e ≡ Some x
    → SameAs disk e x
one_same disk line (entry.Full who) x quiet is = full_same disk line who x quiet is
one_same disk line (entry.Refused who why) x quiet is = refused_same disk line who why x quiet is
one_same disk line e x quiet is = entry_has (SameAs disk e) line e x (entry_same disk e refl) is

-- ENTRIES OF DISKS, and what a settle says of itself
abbrev pub IsOfDisks : SettleEntry → Type 0
IsOfDisks (OfPort k event) = ⊥
IsOfDisks (UnsettledPort k) = ⊥
IsOfDisks x = ⊤

disk_same : (disk : DiskDecl) (line : Line) (e : Entry) (x : SettleEntry) → IsOfDisks x → IsQuiet line
    → world_event line e ≡ Some (told_of x) → SaysSame disk (e ∷ []) (x ∷ [])
disk_same disk line e (OfPort k event) of quiet is = absurd of
disk_same disk line e (UnsettledPort k) of quiet is = absurd of
disk_same disk line e x of quiet is = one_same disk line e x quiet is

-- A PART of a line
first_said : (one two : Option SettleEntry) (ones twos : List (Option SettleEntry)) → one ∷ ones ≡ two ∷ twos
    → one ≡ two
first_said one two ones twos is = cc is

rest_said : (one two : Option SettleEntry) (ones twos : List (Option SettleEntry)) → one ∷ ones ≡ two ∷ twos
    → ones ≡ twos
rest_said one two ones twos is = cc is

pub part_same : (disk : DiskDecl) (line : Line) (part : List Entry) (entries : List SettleEntry)
    → EachEntry IsOfDisks entries → IsQuiet line → PartSays line part entries → SaysSame disk part entries
part_same disk line [] [] of quiet says = (refl, refl)
part_same disk line [] (x ∷ entries) of quiet says = absurd (cc says)
part_same disk line (e ∷ part) [] of quiet says = absurd (cc says)
part_same disk line (e ∷ part) (x ∷ entries) of quiet says =
    let all = map (λ (y : SettleEntry). Some (told_of y)) entries in
    let first : world_event line e ≡ Some (told_of x) =
    first_said (world_event line e) (Some (told_of x)) (map (world_event line) part) all says in
    let rest : PartSays line part entries =
    rest_said (world_event line e) (Some (told_of x)) (map (world_event line) part) all says in
    says_append disk (e ∷ []) part (x ∷ []) entries (disk_same disk line e x of.0 quiet first)
    (part_same disk line part entries of.1 quiet rest)
