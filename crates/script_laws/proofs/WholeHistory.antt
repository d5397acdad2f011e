-- What a journal tells of all disks together: how many of its completions failed.
use Rattle.std.proofs.Common.{◌≡◌, inl, inr, ℕ, ◌+◌, Bool, false, cond, List, [], ◌∷◌, refl, sym, ap, ◌∙◌, arith}
use Rattle.std.specs.List.{cons_option, count_by}
use Rattle.disk_law.specs.ListStep as plain
use Rattle.domain_script.specs.declared.event.Event.{Event}
use Rattle.world_parts.specs.world_laws.Settle.{OfLane, SettleEntry}
use Rattle.ldom_report.specs.DiskEvents.{Said, said, said_of_any, whole_history}
use Rattle.ldom_entries.specs.declared.entry.Entry.{Entry}
use Rattle.world_parts.proofs.world_laws.Counted.{count_more}
use Rattle.world_parts.specs.world_laws.Failures.{in_entry, is_failed_done}
use Rattle.script_laws.specs.Failures.{has_failed}
use Rattle.script_laws.proofs.EntryKinds.{Kind, SaysNothing, kind_of}
use Rattle.script_laws.proofs.Tellings.{Telling, entries_told, means_of}

-- COUNTS
abbrev one_count : Bool → ℕ
one_count b = cond {A = ℕ} b 1 0

nothing_failed : (m : SettleEntry) → SaysNothing m → in_entry is_failed_done m ≡ false
nothing_failed (OfLane k event) nothing = nothing.1
nothing_failed _ nothing = refl

-- one that isn't counted
not_counted : (m : SettleEntry) (n : ℕ) → in_entry is_failed_done m ≡ false
    → n ≡ one_count (in_entry is_failed_done m) + n
not_counted m n none = let count = ap one_count none in omega (arith, count)

entry_count : (asked : Event) (e : Entry) (m : SettleEntry) (es : List plain.ListEvent) → Kind asked e m
    → count_by has_failed (cons_option (said_of_any (said e)) es)
    ≡ one_count (in_entry is_failed_done m) + count_by has_failed es
entry_count asked e m es (inl at) =
    let same : in_entry is_failed_done m ≡ has_failed at.seen = ap (in_entry is_failed_done) at.means_is ∙ at.failed in
    ap (λ (s : Said). count_by has_failed (cons_option (said_of_any s) es)) at.said_is
    ∙ count_more has_failed at.seen es
    ∙ ap (λ (b : Bool). one_count b + count_by has_failed es) (sym same)
entry_count asked e m es (inr (inl other)) = grind (arith, not_counted)
entry_count asked e m es (inr (inr silent)) = grind (arith, not_counted, nothing_failed)

pub all_counts : (tellings : List Telling)
    → count_by has_failed (whole_history (entries_told tellings))
    ≡ count_by (in_entry is_failed_done) (means_of tellings)
all_counts [] = refl
all_counts (t ∷ tellings) =
    entry_count t.asked t.entry t.means (whole_history (entries_told tellings)) (kind_of t.asked t.entry t.means t.is)
    ∙ ap (λ (n : ℕ). one_count (in_entry is_failed_done t.means) + n) (all_counts tellings)
    ∙ sym (count_more (in_entry is_failed_done) t.means (means_of tellings))
