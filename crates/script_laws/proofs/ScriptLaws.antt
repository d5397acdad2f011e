-- What a script's journal says of the requests of its disks and of the image.
use Rattle.std.proofs.Common.{◌≡◌, inl, inr, ℕ, ◌^◌, ◌<◌, ◌≤◌, ◌==◌, Bool, true, false, Option, Some, IfSome, List, [], ◌∷◌, length, map, slice_get, slice_index, sym, ap, ◌∙◌, subst, arith}
use Rattle.std.specs.List.{All, count_by, filter_map}
use Rattle.std.proofs.lemmas.Bool.{cases_lt}
use Rattle.std.proofs.lemmas.List.{length-map}
use Rattle.std.proofs.lemmas.List.Elements.{All-nil}
use Rattle.std.proofs.lemmas.List.Sums.{count_by-le-length}
use Rattle.runs.specs.Lawful.{log_of}
use Rattle.runs.specs.Run.{Run}
use Rattle.vio_io.specs.Causes.{count_after}
use Rattle.disk_law.specs.Issued.{Admission, CompletesOnceInOrder, issued}
use Rattle.disk_law.specs.ListState.{ImageState}
use Rattle.disk_law.specs.ListStep as plain
use Rattle.world_parts.specs.lane_models.DiskEvent.{DiskEvent}
use Rattle.world_parts.specs.lane_models.LaneState.{Shape, fresh}
use Rattle.world_parts.specs.lane_models.LaneStep.{LaneStep}
use Rattle.world_parts.specs.lane_laws.DiskLog.{after, nothing_yet}
use Rattle.domain_script.specs.Declarations.{AreDisks, Declared}
use Rattle.lane_kinds.specs.Lanes.{EachOf}
use Rattle.world_parts.specs.lane_models.PortState.{fresh_port}
use Rattle.world_parts.proofs.domain_laws.LineEntries.{EachEntry}
use Rattle.world_parts.proofs.domain_laws.Running.{fresh_reached as fresh_ports_reached, ports_run}
use Rattle.script_laws.proofs.PortWords.{IsPortTold, as_told, ports_told}
use Rattle.script_laws.proofs.ReadPorts.{many_nets}
use Rattle.domain_script.specs.declared.event.DiskDecl.{DiskDecl}
use Rattle.domain_script.specs.declared.event.Event.{Event}
use Rattle.world_parts.specs.world_laws.Along.{happened}
use Rattle.world_parts.proofs.world_laws.Along.{fresh_reached, lane_at, lanes_run, shape_at}
use Rattle.lane_kinds.proofs.Places.{get_within}
use Rattle.world_parts.specs.world_laws.World.{IsWorld, WorldState, WorldStep, fresh_world}
use Rattle.world_parts.specs.lane_models.NetLaneState.{IsNetShape, NetShape}
use Rattle.world_parts.specs.domain_laws.Domain.{DomainState}
use Rattle.world_parts.specs.world_laws.Failures.{in_entry, is_failed_done, is_failed_store, is_flush, is_store, is_store_that, is_write}
use Rattle.world_parts.specs.world_laws.Forged.{NobodyForges}
use Rattle.world_parts.specs.world_laws.NamesNo.{AllLeaveAlone}
use Rattle.world_parts.proofs.world_laws.ImageFaults.{few_counted, run_calls, run_faults, run_flushes, run_writes}
use Rattle.ldom_report.specs.DiskEvents.{history}
use Rattle.ldom_report.specs.HasWords.{HasWords}
use Rattle.ldom_entries.specs.declared.entry.Entry.{Entry}
use Rattle.world_parts.proofs.world_laws.Forging.{all_unforged, forged_by_events}
use Rattle.world_parts.proofs.world_laws.LawFacts.{log_clean}
use Rattle.world_parts.proofs.world_laws.WorldLaws.{disk_counted, world_counted, world_tells}
use Rattle.world_parts.proofs.world_laws.BehindDisks.{stays_behind}
use Rattle.world_parts.proofs.world_laws.NamedRuns.{stays_at}
use Rattle.world_parts.specs.Declared.{bytes_needed, nets_of, shape_of, shapes_of, world_of}
use Rattle.world_parts.specs.Lines.{all_happened}
use Rattle.world_parts.specs.Script.{FitsScript, ScriptParts, all_lines, journal_of}
use Rattle.world_parts.proofs.world_laws.RequestLaws.{disk_admits, disk_completes}
use Rattle.world_parts.specs.world_laws.Requests.{requests_of}
use Rattle.script_laws.specs.Admitting.{AdmitsAll}
use Rattle.script_laws.specs.Failures.{FailuresCounted, SucceedOrFail, SucceedsOrFails, failed_count, has_failed}
use Rattle.script_laws.specs.Forged.{IsUnforged}
use Rattle.script_laws.specs.Outside.{IsOutsideDisks, KeepsOthers}
use Rattle.script_laws.specs.Stored.{fault_count, flush_count, is_stored_that, stored_count, write_count}
use Rattle.script_laws.proofs.DiskHistory.{all_seen, history_kept, issued_kept, kept_once, nothing_once}
use Rattle.script_laws.proofs.DeclaredWorlds.{declared_world}
use Rattle.script_laws.proofs.DiskShapes.{are_shapes, many_shapes, shape_there}
use Rattle.script_laws.proofs.EntryKinds.{kept}
use Rattle.script_laws.proofs.StoredEntries.{all_stored}
use Rattle.script_laws.proofs.Tellings.{Telling, as_many, entries_told, means_of}
use Rattle.script_laws.proofs.Through.{JournalTells, script_tells}
use Rattle.script_laws.proofs.ToldEntries.{AreTold, none_happened, run_told}
use Rattle.script_laws.proofs.WholeHistory.{all_counts}
use Rattle.script_laws.proofs.ForgedEntries.{means_unforged}
use Rattle.script_laws.proofs.DiskStatuses.{failed_of, kept_of, statuses_of}
use Rattle.script_laws.proofs.WordedEntries.{all_words}
use Rattle.script_laws.proofs.WrittenPlaces.{names_no}

-- A RUN by no entry
no_run : (w v : WorldState) (tellings : List Telling) → entries_told tellings ≡ [] → Run WorldStep w (means_of tellings) v
    → v ≡ w
no_run w v [] none run = sym run
no_run w v (t ∷ tellings) none run = absurd (cc none)

-- A JOURNAL that tells its lines, whether the last was cut off or not
module _ (disks : List DiskDecl) (nets : List NetShape) (image : ImageState) (entries : ℕ) (parts : ScriptParts)
    (v : DomainState) (are : AreDisks disks) (fits : FitsScript entries (world_of disks nets image) parts v) where
  abbrev lines : List (Event × List Entry)
  lines = all_lines parts

  abbrev journal : List Entry
  journal = journal_of parts

  abbrev tells : JournalTells disks nets image parts v
  tells = script_tells disks nets image entries parts v fits

  told_all : AreTold (length disks) (means_of tells.tellings)
  told_all =
      run_told (length disks) (length nets) (fresh_world (shapes_of 0 disks) image) (means_of tells.tellings) v.first
      (length-map (shapes_of 0 disks) fresh ∙ many_shapes 0 disks)
      (fresh_reached 0 (shapes_of 0 disks) (are_shapes 0 disks are)) tells.run tells.below

  -- the disk's events
  disk_seen : (x : ℕ) → all_happened x lines ≡ requests_of (happened x (means_of tells.tellings))
  disk_seen x = sym (tells.seen x) ∙ all_seen x tells.tellings

  none_seen : (x : ℕ) → length disks ≤ x → all_happened x lines ≡ []
  none_seen x past =
      disk_seen x ∙ ap requests_of (none_happened (length disks) x (means_of tells.tellings) past told_all)

  one_admits : (x : ℕ) (disk : DiskDecl) → slice_get disks x ≡ Some disk
      → Admission disk.blocks disk.ring (all_happened x lines)
  one_admits x disk there =
      let at = shape_there 0 disks x disk there in
      subst (λ (es : List plain.ListEvent). Admission disk.blocks disk.ring es) (sym (disk_seen x))
      (disk_admits (shapes_of 0 disks) image (means_of tells.tellings) v.first x (shape_of at.0 disk)
      (are_shapes 0 disks are) tells.run at.1)

  pub script_admits : AdmitsAll disks lines
  script_admits = record { admission = one_admits; no_other = none_seen }

  -- those that were accepted complete once and in order
  one_completes : (x : ℕ) → CompletesOnceInOrder (requests_of (happened x (means_of tells.tellings)))
  one_completes x = elim (cases_lt x (length disks)) [
    | inl below ↦
        let disk = get_within disks x below in
        let at = shape_there 0 disks x disk.0 disk.1 in
        disk_completes (shapes_of 0 disks) image (means_of tells.tellings) v.first x (shape_of at.0 disk.0)
        (are_shapes 0 disks are) tells.run at.1
    | inr past ↦
        subst CompletesOnceInOrder
        (sym (ap requests_of (none_happened (length disks) x (means_of tells.tellings) past told_all))) nothing_once
  ]

  history_is : (x : ℕ) → history x journal ≡ filter_map kept (requests_of (happened x (means_of tells.tellings)))
  history_is x =
      ap (λ (l : List Entry). history x l) (sym tells.journal_is) ∙ history_kept x tells.tellings
      ∙ ap (λ (es : List plain.ListEvent). filter_map kept es) (all_seen x tells.tellings)

  pub script_once : (x : ℕ) → CompletesOnceInOrder (history x journal)
  script_once x =
      subst CompletesOnceInOrder (sym (history_is x))
      (kept_once (requests_of (happened x (means_of tells.tellings))) (one_completes x))

  -- the places that the accepted requests leave alone
  issued_is : (x : ℕ) → issued (history x journal) ≡ issued (requests_of (happened x (means_of tells.tellings)))
  issued_is x = ap issued (history_is x) ∙ issued_kept (requests_of (happened x (means_of tells.tellings)))

  -- a disk that the journal forges nowhere
  none_forges : (x : ℕ) → IsUnforged x journal → NobodyForges (happened x (means_of tells.tellings))
  none_forges x none = means_unforged x tells.tellings (subst (IsUnforged x) (sym tells.journal_is) none)

  leave_alone : (place : ℕ) → IsOutsideDisks disks journal place
      → AllLeaveAlone (shapes_of 0 disks) place (means_of tells.tellings)
  leave_alone place outside x shape there = grind (arith, none_forges, names_no, history_is, issued_kept)

  same_content : (a b : List ℕ) → Some a ≡ Some b → a ≡ b
  same_content a b is = cc is

  pub script_kept : (content : List ℕ) → image.told ≡ Some content → bytes_needed disks ≤ length content
      → KeepsOthers (IsOutsideDisks disks journal) content v.first.image.told
  script_kept content told within =
      let world : IsWorld (shapes_of 0 disks) image =
      declared_world disks image are
      (subst (λ (o : Option (List ℕ)). IfSome o (λ bytes. bytes_needed disks ≤ length bytes)) (sym told) within) in
      let shapes = shapes_of 0 disks in
      let means = means_of tells.tellings in
      let stays = stays_behind shapes image content world told means v.first tells.run in
      record {
        content = stays.now;
        told_is = stays.told_is;
        long = stays.long;
        same = λ place outside.
            let at = stays_at shapes image content place world told means v.first tells.run (leave_alone place outside) in
            let now = same_content stays.now at.now (sym stays.told_is ∙ at.told_is) in
            ap (λ (l : List ℕ). slice_index l place) now ∙ at.byte;
      }

  -- no more failed than the image counts
  means_short : length journal < 2 ^ 63 → length (means_of tells.tellings) < 2 ^ 63
  means_short short = grind (arith, as_many)

  disk_failed : (x : ℕ) → image.faults ≡ 0 → length journal < 2 ^ 63 → IsUnforged x journal
      → count_by has_failed (history x journal) ≤ v.first.image.faults
  disk_failed x none short clean = elim (cases_lt x (length disks)) [
    | inl below ↦
        let events = happened x (means_of tells.tellings) in
        let count : count_by has_failed (history x journal) ≡ count_by is_failed_done events =
        ap (λ (es : List plain.ListEvent). count_by has_failed es) (history_is x) ∙ failed_of events in
        let most = disk_counted (shapes_of 0 disks) image (means_of tells.tellings) v.first x (are_shapes 0 disks are) tells.run
        (omega (arith, below, many_shapes 0 disks)) (none_forges x clean) none (means_short short) in
        omega (arith, count, most)
    | inr past ↦
        let nothing : history x journal ≡ [] =
        history_is x ∙ ap kept_of (none_happened (length disks) x (means_of tells.tellings) past told_all) in
        let count : count_by has_failed (history x journal) ≡ 0 =
        ap (λ (es : List plain.ListEvent). count_by has_failed es) nothing in
        omega (arith, count)
  ]

  all_failed : image.faults ≡ 0 → length journal < 2 ^ 63 → ((x : ℕ) → IsUnforged x journal)
      → failed_count journal ≤ v.first.image.faults
  all_failed none short clean =
      let means = means_of tells.tellings in
      let count = ap failed_count (sym tells.journal_is) ∙ all_counts tells.tellings in
      let most = world_counted (shapes_of 0 disks) image means v.first (are_shapes 0 disks are) tells.run
      (all_unforged (shapes_of 0 disks) image means v.first tells.run (λ x. none_forges x (clean x))) none
      (means_short short) in
      omega (arith, count, most)

  pub script_failed : image.faults ≡ 0 → length journal < 2 ^ 63 → FailuresCounted journal v.first.image.faults
  script_failed none short = record {
    each = λ x clean. disk_failed x none short clean;
    all = all_failed none short;
  }

  -- each call of the image is told
  counted : (says : ℕ → Bool → Bool) → length journal < 2 ^ 63
      → count_after (count_by (in_entry (is_store_that says)) (means_of tells.tellings)) 0
      ≡ count_by (is_stored_that says) journal
  counted says short =
      let means = means_of tells.tellings in
      let many = as_many tells.tellings in
      let long = ap (λ (l : List Entry). length l) tells.journal_is in
      let most = count_by-le-length (in_entry (is_store_that says)) means in
      few_counted (count_by (in_entry (is_store_that says)) means) (omega (arith, many, long, short, most))
      ∙ sym (all_stored says tells.tellings) ∙ ap (λ (l : List Entry). count_by (is_stored_that says) l) tells.journal_is

  pub script_calls : image.calls ≡ 0 → length journal < 2 ^ 63 → v.first.image.calls ≡ stored_count journal
  script_calls none short =
      let means = means_of tells.tellings in
      run_calls (fresh_world (shapes_of 0 disks) image) means v.first tells.run ∙ ap (λ (n : ℕ). count_after (count_by (in_entry is_store) means) n) none
      ∙ counted (λ operation failed. true) short

  pub script_flushes : image.flushes ≡ 0 → length journal < 2 ^ 63 → v.first.image.flushes ≡ flush_count journal
  script_flushes none short =
      let means = means_of tells.tellings in
      run_flushes (fresh_world (shapes_of 0 disks) image) means v.first tells.run ∙ ap (λ (n : ℕ). count_after (count_by (in_entry is_flush) means) n) none
      ∙ counted (λ operation failed. operation == 3) short

  pub script_writes : image.writes ≡ 0 → length journal < 2 ^ 63 → v.first.image.writes ≡ write_count journal
  script_writes none short =
      let means = means_of tells.tellings in
      run_writes (fresh_world (shapes_of 0 disks) image) means v.first tells.run ∙ ap (λ (n : ℕ). count_after (count_by (in_entry is_write) means) n) none
      ∙ counted (λ operation failed. operation == 2) short

  pub script_faults : image.faults ≡ 0 → length journal < 2 ^ 63 → v.first.image.faults ≡ fault_count journal
  script_faults none short =
      let means = means_of tells.tellings in
      run_faults (fresh_world (shapes_of 0 disks) image) means v.first tells.run ∙ ap (λ (n : ℕ). count_after (count_by (in_entry is_failed_store) means) n) none
      ∙ counted (λ operation failed. failed) short

  -- nothing happened where it has no entry
  pub script_nothing : journal ≡ [] → v.first ≡ fresh_world (shapes_of 0 disks) image
  script_nothing none =
      no_run (fresh_world (shapes_of 0 disks) image) v.first tells.tellings (tells.journal_is ∙ none) tells.run

  -- each completion of a disk that nobody forged has the status 0 or 5
  log_unforged : (x : ℕ) (shape : Shape) → slice_get (shapes_of 0 disks) x ≡ Some shape
      → NobodyForges (happened x (means_of tells.tellings))
      → (log_of after (nothing_yet shape) (happened x (means_of tells.tellings))).wire.forged ≡ false
  log_unforged x shape of_shape none =
      let events = happened x (means_of tells.tellings) in
      let lane = lane_at (shapes_of 0 disks) image (means_of tells.tellings) v.first x shape tells.run of_shape in
      let run : Run LaneStep (fresh shape) events lane.0 =
      (lanes_run (shapes_of 0 disks) image (means_of tells.tellings) v.first tells.run).each x shape lane.0 of_shape lane.1 in
      log_clean shape events lane.0 (shape_at 0 (shapes_of 0 disks) x shape (are_shapes 0 disks are) of_shape) run
      ((forged_by_events shape events lane.0 run).1 none)

  kept_statuses : (x : ℕ) → NobodyForges (happened x (means_of tells.tellings))
      → All SucceedsOrFails (kept_of (happened x (means_of tells.tellings)))
  kept_statuses x none = elim (cases_lt x (length disks)) [
    | inl below ↦
        let disk = get_within disks x below in
        let at = shape_there 0 disks x disk.0 disk.1 in
        statuses_of (nothing_yet (shape_of at.0 disk.0)) (happened x (means_of tells.tellings))
        (world_tells (shapes_of 0 disks) image (means_of tells.tellings) v.first x (shape_of at.0 disk.0)
        (are_shapes 0 disks are) tells.run at.1) (log_unforged x (shape_of at.0 disk.0) at.1 none)
    | inr past ↦
        subst (λ (l : List DiskEvent). All SucceedsOrFails (kept_of l))
        (sym (none_happened (length disks) x (means_of tells.tellings) past told_all)) (All-nil SucceedsOrFails)
  ]

  pub script_statuses : SucceedOrFail journal
  script_statuses = λ x clean.
      subst (λ (es : List plain.ListEvent). All SucceedsOrFails es) (sym (history_is x))
      (kept_statuses x (none_forges x clean))

  -- each entry of a port is of one of them
  pub ports_told_all : EachOf IsNetShape nets → EachEntry (IsPortTold (length nets)) (means_of tells.tellings)
  ports_told_all nets_are =
      subst (EachEntry (IsPortTold (length nets))) (sym tells.means_are)
      (as_told (length nets) tells.real
      (ports_told (length disks) (length nets) (map fresh_port nets) tells.real v.second (length-map nets fresh_port)
      (fresh_ports_reached nets nets_are) (ports_run (world_of disks nets image) tells.real v tells.led) tells.real_below))

-- EACH ENTRY has its words
pub script_worded : (all : Declared) (image : ImageState) (entries : ℕ) (parts : ScriptParts) (v : DomainState) → AreDisks all.disks
    → EachOf IsNetShape (nets_of all.ports) → FitsScript entries (world_of all.disks (nets_of all.ports) image) parts v
    → All (HasWords all) (journal_of parts)
script_worded all image entries parts v are nets_are fits =
    let nets : List NetShape = nets_of all.ports in
    let tells : JournalTells all.disks nets image parts v = script_tells all.disks nets image entries parts v fits in
    subst (All (HasWords all)) tells.journal_is
    (all_words all tells.tellings (told_all all.disks nets image entries parts v are fits)
    (subst (λ (n : ℕ). EachEntry (IsPortTold n) (means_of tells.tellings)) (many_nets all.ports)
    (ports_told_all all.disks nets image entries parts v are fits nets_are)))
