-- Which entries of a journal say that the image was called: those that mean a call of a store for the lanes.
use Rattle.std.proofs.Common.{◌≡◌, ℕ, ◌+◌, Bool, false, cond, Some, List, [], ◌∷◌, refl, sym, ap, ◌∙◌, arith}
use Rattle.std.specs.List.{count_by}
use Rattle.world_parts.specs.lane_models.DiskEvent.{DiskEvent, Stored, Works}
use Rattle.domain_script.specs.declared.event.Event.{Event}
use Rattle.ldom_entries.specs.declared.entry.Entry.{Entry}
use Rattle.ldom_entries.specs.declared.entry.Entry.TheVariants as entry
use Rattle.ldom_report.specs.LaneEvents.{AtLane, AtServer, Meaning, meaning}
use Rattle.world_parts.specs.WorldEvents.{world_event}
use Rattle.world_parts.proofs.world_laws.Counted.{count_more}
use Rattle.world_parts.specs.world_laws.Failures.{in_entry, is_store, is_store_that}
use Rattle.world_parts.specs.world_laws.Settle.{OfLane, SettleEntry}
use Rattle.world_parts.proofs.Meanings.{AllOf, Holds, all_events, all_left, entry_has, lane_has}
use Rattle.world_parts.specs.Lines.{line_of}
use Rattle.script_laws.proofs.Tellings.{Telling, entries_told, means_of}
use Rattle.script_laws.specs.Stored.{is_stored_that}

-- WHETHER A CALL OF A STORE IS MEANT
abbrev means_store : Meaning → Bool
means_store (AtServer e event) = is_store event
means_store (AtLane k event) = is_store event
means_store other = false

abbrev StoreSays : (ℕ → Bool → Bool) → Bool → SettleEntry → Type 0
StoreSays says b m = in_entry (is_store_that says) m ≡ b

event_none : (says : ℕ → Bool → Bool) (event : DiskEvent) → is_store event ≡ false → is_store_that says event ≡ false
event_none says (Works (Stored operation block count failed)) none = absurd (cc none)
event_none says event none = refl

abbrev NoStore : DiskEvent → Type 0
NoStore event = is_store event ≡ false

of_events : (says : ℕ → Bool → Bool) (x : Meaning) → AllOf NoStore x → Holds (StoreSays says false) x
of_events says x all = grind (arith, all_events)

others_none : (says : ℕ → Bool → Bool) (x : Meaning) → means_store x ≡ false → Holds (StoreSays says false) x
others_none says x none = grind (arith, all_events, all_left)

-- EACH ENTRY says of a call what it means
entry_stored : (says : ℕ → Bool → Bool) (asked : Event) (e : Entry) (m : SettleEntry)
    → world_event (line_of asked) e ≡ Some m → in_entry (is_store_that says) m ≡ is_stored_that says e
entry_stored says asked (entry.Stored e operation block count failed) m is =
    entry_has (StoreSays says (says operation failed)) (line_of asked) (entry.Stored e operation block count failed) m
    (lane_has (λ lane. StoreSays says (says operation failed)) (λ k. OfLane k (Works (Stored operation block count failed))) e.lane (λ k. refl)) is
entry_stored says asked e m is = entry_has (StoreSays says false) (line_of asked) e m (others_none says (meaning e) refl) is

-- A JOURNAL
pub all_stored : (says : ℕ → Bool → Bool) (tellings : List Telling)
    → count_by (is_stored_that says) (entries_told tellings)
    ≡ count_by (in_entry (is_store_that says)) (means_of tellings)
all_stored says [] = refl
all_stored says (t ∷ tellings) =
    count_more (is_stored_that says) t.entry (entries_told tellings)
    ∙ ap (λ (n : ℕ). cond {A = ℕ} (is_stored_that says t.entry) 1 0 + n) (all_stored says tellings)
    ∙ ap (λ (b : Bool). cond {A = ℕ} b 1 0 + count_by (in_entry (is_store_that says)) (means_of tellings))
    (sym (entry_stored says t.asked t.entry t.means t.is))
    ∙ sym (count_more (in_entry (is_store_that says)) t.means (means_of tellings))
