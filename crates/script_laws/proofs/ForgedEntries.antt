-- A journal that forges a disk nowhere tells its lane of nothing that forges.
use Rattle.std.proofs.Common.{◌≡◌, ℕ, ◌==◌, if◌then◌else◌, Bool, true, false, List, [], ◌∷◌, ◌++◌, Option, Some, None, option_map, refl}
use Rattle.std.proofs.lemmas.Bool.{eqb-true}
use Rattle.world_parts.specs.lane_models.WireEvent.{Injected, Poked, WireEvent}
use Rattle.world_parts.specs.lane_models.DiskEvent.{DiskEvent, OnWire}
use Rattle.domain_script.specs.declared.event.Lane.{Lane}
use Rattle.domain_script.specs.LaneKinds.{disk_of, port_of}
use Rattle.ldom_entries.specs.declared.entry.Entry.{Entry}
use Rattle.ldom_entries.specs.declared.entry.Entry.TheVariants as entry
use Rattle.ldom_report.specs.LaneEvents.{AtLane, AtPort, AtServer, AtWire, ChangesNothing, LeavesNothing, LeavesOver, Meaning, NoRoomFor, Publishes, Refuses, Switches, TakesFrame, meaning}
use Rattle.world_parts.specs.world_laws.Along.{event_at, happened}
use Rattle.world_parts.specs.world_laws.Forged.{NobodyForges, forges}
use Rattle.world_parts.specs.world_laws.Settle.{OfLane, SettleEntry}
use Rattle.world_parts.proofs.Meanings.{AllOf, Has, Holds, all_events, all_left, entry_has, or_has}
use Rattle.world_parts.specs.Lines.{line_of}
use Rattle.world_parts.specs.WorldEvents.{disk_event, net_event, of_net, on_channel, wire_event}
use Rattle.script_laws.specs.Forged.{IsOther, IsUnforged, forged_disk}
use Rattle.script_laws.proofs.Tellings.{Telling, entries_told, means_of}

-- what is told of the disk x forges nothing
abbrev Leaves : ℕ → SettleEntry → Type 0
Leaves x m = NobodyForges (event_at x m)

where_so : (b : Bool) (event : DiskEvent) → forges event ≡ false → NobodyForges (if b then event ∷ [] else [])
where_so true event none = (none, tt)
where_so false event none = tt

leaves : (x k : ℕ) (event : DiskEvent) → forges event ≡ false → Leaves x (OfLane k event)
leaves x k event none = where_so (k == x) event none

unless : (b : Bool) (event : DiskEvent) → (b ≡ true → ⊥) → NobodyForges (if b then event ∷ [] else [])
unless true event other = absurd (other refl)
unless false event other = tt

-- on the wire of a lane that isn't the disk x
other_disk : (x : ℕ) (event : WireEvent) (o : Option ℕ) → IsOther x o → Has (Leaves x) (option_map (λ k. OfLane k (OnWire event)) o)
other_disk x event None other = tt
other_disk x event (Some n) other = unless (n == x) (OnWire event) (λ same. other (eqb-true n x same))

any_port : (x : ℕ) (event : WireEvent) (o : Option ℕ) → Has (Leaves x) (option_map (λ k. of_net k (on_channel event)) o)
any_port x event None = tt
any_port x event (Some n) = tt

of_other : (x : ℕ) (event : WireEvent) (lane : Lane) → IsOther x (disk_of lane) → Has (Leaves x) (wire_event lane event)
of_other x event lane other =
    or_has (Leaves x) (disk_event lane (OnWire event)) (net_event lane (on_channel event)) (other_disk x event (disk_of lane) other)
    (any_port x event (port_of lane))

abbrev ForgesNone : DiskEvent → Type 0
ForgesNone event = forges event ≡ false

of_events : (x : ℕ) (m : Meaning) → AllOf ForgesNone m → Holds (Leaves x) m
of_events x m all =
    all_events (Leaves x) ForgesNone (record { of_disk = λ k event none. leaves x k event none; of_port = λ k event. tt }) m all

-- no event but one on the wire forges
abbrev aside : Meaning → Bool
aside (AtServer e event) = forges event
aside (AtLane k event) = forges event
aside _ = false

never_aside : (e : Entry) → aside (meaning e) ≡ false
never_aside entry.Settled = refl
never_aside _ = refl

-- BY WHAT AN ENTRY MEANS
means_leaves : (x : ℕ) (m : Meaning) → aside m ≡ false → IsOther x (forged_disk m) → Holds (Leaves x) m
means_leaves x (AtWire e (Injected d packet)) none other = of_other x (Injected d packet) e.lane other
means_leaves x (AtWire e (Poked d at bytes)) none other = of_other x (Poked d at bytes) e.lane other
means_leaves x (AtWire e event) none other = of_events x (AtWire e event) refl
means_leaves x (AtServer e event) none other = of_events x (AtServer e event) none
means_leaves x (AtLane k event) none other = of_events x (AtLane k event) none
means_leaves x (AtPort k gets) none other = of_events x (AtPort k gets) tt
means_leaves x (Publishes e id) none other = of_events x (Publishes e id) refl
means_leaves x (TakesFrame e frame) none other = of_events x (TakesFrame e frame) tt
means_leaves x (Switches e frame out full) none other = of_events x (Switches e frame out full) tt
means_leaves x (NoRoomFor who) none other = of_events x (NoRoomFor who) (λ request. refl, λ d. refl)
means_leaves x (Refuses who why) none other = of_events x (Refuses who why) (λ defect request. refl, λ d. refl)
means_leaves x (ChangesNothing who) none other = of_events x (ChangesNothing who) (λ calm. refl, λ d. refl)
means_leaves x (LeavesOver who) none other = all_left (Leaves x) who (λ k. tt) (λ k. tt)
means_leaves x LeavesNothing none other = tt

both_leave : (one two : List DiskEvent) → NobodyForges one → NobodyForges two → NobodyForges (one ++ two)
both_leave [] two first second = second
both_leave (event ∷ one) two first second = (first.0, both_leave one two first.1 second)

pub means_unforged : (x : ℕ) (tellings : List Telling) → IsUnforged x (entries_told tellings)
    → NobodyForges (happened x (means_of tellings))
means_unforged x [] none = tt
means_unforged x (t ∷ tellings) none =
    both_leave (event_at x t.means) (happened x (means_of tellings))
    (entry_has (Leaves x) (line_of t.asked) t.entry t.means
    (means_leaves x (meaning t.entry) (never_aside t.entry) none.0) t.is)
    (means_unforged x tellings none.1)
