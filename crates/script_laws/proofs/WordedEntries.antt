-- Each entry of a journal has the words of its line, since what it is for the lanes has its own.
use Rattle.std.proofs.Common.{◌≡◌, ℕ, Option, Some, List, [], ◌∷◌, length, arith}
use Rattle.std.specs.List.{All}
use Rattle.std.proofs.lemmas.List.Elements.{All-cons, All-nil}
use Rattle.std.specs.Prelude.{⊤}
use Rattle.ldc_queue.specs.declared.end.End.{End}
use Rattle.world_parts.specs.lane_models.WireEvent.{Reset}
use Rattle.world_parts.specs.lane_models.DiskEvent.{DiskEvent, Stored, Works}
use Rattle.world_parts.specs.world_laws.Settle.{OfLane, SettleEntry}
use Rattle.world_parts.specs.domain_laws.Lines.{Line}
use Rattle.vdisk_msg.specs.Requests.{IsOperation}
use Rattle.vio_tag.specs.declared.cause.Cause.{Cause}
use Rattle.vio_tag.specs.declared.cause.Cause.TheVariants as the_cause
use Rattle.domain_script.specs.Declarations.{Declared}
use Rattle.domain_script.specs.declared.event.Lane.{Lane}
use Rattle.ldom_entries.specs.declared.entry.Entry.{Entry}
use Rattle.ldom_entries.specs.declared.entry.Entry.TheVariants as entry
use Rattle.ldom_entries.specs.declared.entry.Who.TheVariants.{Lane as OfWhole, End as OfEnd}
use Rattle.ldom_report.specs.HasWords.{HasFault, HasValues, HasWords, IsCompletion, IsLane, NamesDeclared}
use Rattle.ldom_report.specs.LaneEvents.{AtLane, AtPort, AtServer, AtWire, ChangesNothing, LeavesNothing, LeavesOver, Meaning, NoRoomFor, Publishes, Refuses, Switches, TakesFrame, end_of, meaning}
use Rattle.world_parts.specs.WorldEvents.{of_net, reset_of, world_event}
use Rattle.world_parts.specs.Lines.{line_of}
use Rattle.world_parts.specs.world_laws.Words.{NamesFault, ReadsBlocks}
use Rattle.world_parts.proofs.domain_laws.LineEntries.{EachEntry}
use Rattle.script_laws.proofs.PortWords.{IsPortTold}
use Rattle.script_laws.proofs.Tellings.{Telling, entries_told, means_of}
use Rattle.script_laws.proofs.ToldEntries.{AreTold, IsTold}
use Rattle.world_parts.proofs.Meanings.{AllOf, Holds, about, by_events, entry_has, lane_has, left_has, wire_has}

-- AN ENTRY of one of so many disks or ports
abbrev IsOfDeclared : ℕ → ℕ → SettleEntry → Type 0
IsOfDeclared disks ports m = IsTold disks m × IsPortTold ports m

-- WHAT IS NAMED is declared
abbrev Names : Declared → Lane → SettleEntry → Type 0
Names all lane m = IsOfDeclared (length all.disks) (length all.ports) m → IsLane all lane

abbrev Any : DiskEvent → Type 0
Any event = ⊤

-- a meaning names its lane
lane_named : (all : Declared) (x : Meaning) → AllOf Any x → Holds (Names all (about x)) x
lane_named all x any = grind (arith, by_events)

abbrev IsNamedThere : Declared → Meaning → SettleEntry → Type 0
IsNamedThere all x m = IsOfDeclared (length all.disks) (length all.ports) m → NamesDeclared all x

named : (all : Declared) (x : Meaning) → Holds (IsNamedThere all x) x
named all (AtWire e event) = lane_named all (AtWire e event) tt
named all (AtServer e event) = lane_named all (AtServer e event) tt
named all (AtLane k event) = lane_named all (AtLane k event) tt
named all (AtPort k gets) = lane_named all (AtPort k gets) tt
named all (Publishes e id) = lane_named all (Publishes e id) tt
named all (TakesFrame e frame) = lane_named all (TakesFrame e frame) tt
named all (Switches e frame out full) = lane_named all (Switches e frame out full) tt
named all (NoRoomFor (OfWhole lane)) = lane_named all (NoRoomFor (OfWhole lane)) (λ request. tt, λ d. tt)
named all (NoRoomFor (OfEnd e)) = lane_named all (NoRoomFor (OfEnd e)) (λ request. tt, λ d. tt)
named all (Refuses (OfWhole lane) why) = lane_named all (Refuses (OfWhole lane) why) (λ defect request. tt, λ d. tt)
named all (Refuses (OfEnd e) why) = lane_named all (Refuses (OfEnd e) why) (λ defect request. tt, λ d. tt)
named all (ChangesNothing (OfWhole lane)) = lane_named all (ChangesNothing (OfWhole lane)) (λ calm. tt, λ d. tt)
named all (ChangesNothing (OfEnd e)) = lane_named all (ChangesNothing (OfEnd e)) (λ calm. tt, λ d. tt)
named all (LeavesOver (OfWhole lane)) = left_has (Names all) (OfWhole lane) (λ k told. told.0) (λ k told. told.1)
named all (LeavesOver (OfEnd e)) = tt
named all LeavesNothing = λ told. tt

-- VALUES that have words
completion : (operation status : ℕ) (bytes : List ℕ) → IsOperation operation × ReadsBlocks operation status bytes
    → IsCompletion operation status bytes
completion operation status bytes has = record {
  one = has.0;
  some = λ reads well. (has.1 reads well).0;
  blocks = λ reads well. (has.1 reads well).1;
}

copy_fault : (cause : Cause) → NamesFault cause → HasFault cause
copy_fault (the_cause.Copy fault) names = names
copy_fault cause names = tt

port_fault : (ports k : ℕ) (e : End) (cause : Cause) (packet : Option (List ℕ)) (lost : ℕ)
    → IsPortTold ports (of_net k (reset_of e cause packet lost)) → HasFault cause
port_fault ports k e (the_cause.Copy fault) packet lost told = told.1
port_fault ports k e cause packet lost told = tt

module _ (disks ports : ℕ) where
  abbrev Worded : Type 0 → SettleEntry → Type 0
  Worded P x = IsOfDeclared disks ports x → P

  values : (asked : Line) (e : Entry) (m : SettleEntry) → world_event asked e ≡ Some m → IsOfDeclared disks ports m → HasValues e
  values asked (entry.Done k id operation status bytes) m is told = grind (arith, entry_has, completion)
  values asked (entry.Stored e operation block count failed) m is told =
      entry_has (Worded (HasValues (entry.Stored e operation block count failed))) asked
      (entry.Stored e operation block count failed) m
      (lane_has (λ lane. Worded (HasValues (entry.Stored e operation block count failed)))
      (λ k. OfLane k (Works (Stored operation block count failed))) e.lane
      (λ k at. at.0.1)) is told
  values asked (entry.Reset e cause packet lost) m is told =
      entry_has (Worded (HasFault cause)) asked (entry.Reset e cause packet lost) m
      (wire_has (λ lane. Worded (HasFault cause)) (Reset (end_of e.side) cause packet lost) e.lane
      (λ k at. copy_fault cause at.0.1.0) (λ k at. port_fault ports k (end_of e.side) cause packet lost at.1)) is told
  values asked e m is told = tt

-- EACH ENTRY
entry_words : (all : Declared) (asked : Line) (e : Entry) (m : SettleEntry) → world_event asked e ≡ Some m
    → IsOfDeclared (length all.disks) (length all.ports) m → HasWords all e
entry_words all asked e m is told = (
  entry_has (IsNamedThere all (meaning e)) asked e m (named all (meaning e)) is told,
  values (length all.disks) (length all.ports) asked e m is told,
)

pub all_words : (all : Declared) (tellings : List Telling) → AreTold (length all.disks) (means_of tellings)
    → EachEntry (IsPortTold (length all.ports)) (means_of tellings) → All (HasWords all) (entries_told tellings)
all_words all [] told ports = All-nil (HasWords all)
all_words all (t ∷ tellings) told ports =
    All-cons (HasWords all) t.entry (entries_told tellings)
    (entry_words all (line_of t.asked) t.entry t.means t.is (told.0, ports.0))
    (all_words all tellings told.1 ports.1)
