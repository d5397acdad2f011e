-- Whether an entry of one lane's event tells that a request was accepted: by what it means.
use Rattle.std.proofs.Common.{◌≡◌, ℕ, ◌+◌, Bool, true, false, cond, Some, refl, sym, subst, arith}
use Rattle.std.specs.Prelude.{⊤}
use Rattle.world_parts.specs.lane_models.DiskEvent.{Asks, DiskEvent}
use Rattle.world_parts.specs.lane_models.DiskEvent as disk
use Rattle.world_parts.specs.world_laws.Settle.{OfLane, SettleEntry}
use Rattle.world_parts.specs.domain_laws.Lines.{Line}
use Rattle.ldom_report.specs.LaneEvents.{AtLane, AtPort, AtServer, AtWire, ChangesNothing, LeavesNothing, LeavesOver, Meaning, NoRoomFor, Publishes, Refuses, Switches, TakesFrame, meaning}
use Rattle.world_parts.specs.WorldEvents.{world_event}
use Rattle.ldom_report.specs.Report.{is_accepted}
use Rattle.ldom_entries.specs.declared.entry.Entry.{Entry}
use Rattle.ldom_entries.specs.declared.entry.Entry.TheVariants as entry
use Rattle.world_parts.specs.world_laws.Issued.{next_behind}
use Rattle.world_parts.proofs.Meanings.{AllOf, Holds, all_events, all_left, entry_has}

-- WHETHER AN EVENT ACCEPTS a request, and what an entry means does; an entry of an accepted request is one of those
abbrev takes_up : DiskEvent → Bool
takes_up (Asks (disk.Accepted id request)) = true
takes_up event = false

abbrev accepts : Meaning → Bool
accepts (AtServer e event) = takes_up event
accepts (AtLane k event) = takes_up event
accepts x = false

accepts_as_meant : (x : Entry) → is_accepted x ≡ accepts (meaning x)
accepts_as_meant (entry.Accepted k id request) = refl
accepts_as_meant x = refl

-- AN EVENT OF A DISK gives the next id where it is of an accepted request, and else none
abbrev GivesNext : Bool → DiskEvent → Type 0
GivesNext accepted event = (n : ℕ) → next_behind event n ≡ n + cond accepted 1 0

abbrev Tells : Bool → SettleEntry → Type 0
Tells accepted (OfLane k event) = GivesNext accepted event
Tells accepted said = ⊤

pub none_more : (n : ℕ) → n ≡ n + 0
none_more n = omega (arith)

event_tells : (event : DiskEvent) (n : ℕ) → next_behind event n ≡ n + cond (takes_up event) 1 0
event_tells (Asks (disk.Accepted id request)) n = refl
event_tells event n = none_more n

-- WHATEVER IS MEANT for a lane does, and so each entry of one lane's event
tells_by : (x : Meaning) → AllOf (GivesNext (accepts x)) x → Holds (Tells (accepts x)) x
tells_by x all =
    all_events (Tells (accepts x)) (GivesNext (accepts x))
    (record { of_disk = λ k event next. next; of_port = λ k event. tt }) x all

meaning_tells : (x : Meaning) → Holds (Tells (accepts x)) x
meaning_tells (AtWire e event) = tells_by (AtWire e event) none_more
meaning_tells (AtServer e event) = tells_by (AtServer e event) (event_tells event)
meaning_tells (AtLane k event) = tells_by (AtLane k event) (event_tells event)
meaning_tells (AtPort k gets) = tells_by (AtPort k gets) tt
meaning_tells (Publishes e id) = tells_by (Publishes e id) none_more
meaning_tells (TakesFrame e frame) = tells_by (TakesFrame e frame) tt
meaning_tells (Switches e frame out full) = tells_by (Switches e frame out full) tt
meaning_tells (NoRoomFor who) = tells_by (NoRoomFor who) (λ request. none_more, λ d. none_more)
meaning_tells (Refuses who why) = tells_by (Refuses who why) (λ defect request. none_more, λ d. none_more)
meaning_tells (ChangesNothing who) = tells_by (ChangesNothing who) (λ calm. none_more, λ d. none_more)
meaning_tells (LeavesOver who) = all_left (Tells false) who (λ k. tt) (λ k. tt)
meaning_tells LeavesNothing = tt

pub entry_tells : (line : Line) (x : Entry) (k : ℕ) (event : DiskEvent) → world_event line x ≡ Some (OfLane k event)
    → (n : ℕ) → next_behind event n ≡ n + cond (is_accepted x) 1 0
entry_tells line x k event is =
    subst (λ (accepted : Bool). Tells accepted (OfLane k event)) (sym (accepts_as_meant x))
    (entry_has (Tells (accepts (meaning x))) line x (OfLane k event) (meaning_tells (meaning x)) is)
