-- What the statuses of all lanes of a world tell, and how often its image failed.
use Rattle.std.proofs.Common.{◌≡◌, ◌≤◌, ◌<◌, inl, inr, ℕ, zero, suc, ◌+◌, ◌^◌, Bool, true, false, cond, List, [], ◌∷◌, ◌++◌, length, map, Some, refl, sym, ap, ◌∙◌, subst, arith, append_assoc}
use Rattle.std.specs.Prelude.{if◌then◌else◌, slice_get}
use Rattle.std.specs.List.{count_by}
use Rattle.std.proofs.lemmas.Bool.{eq-eqb}
use Rattle.std.proofs.lemmas.List.Sums.{count_by-le-length}
use Rattle.std.proofs.lemmas.Option.{slice_get_within}
use Rattle.runs.specs.Lawful.{Lawful, lawful_split, log_append, log_of}
use Rattle.runs.specs.Run.{Run}
use Rattle.disk_law.specs.ListState.{ImageState}
use Rattle.lane_laws.specs.DiskLog.{DiskLog, after, nothing_yet}
use Rattle.lane_models.specs.DiskEvent.{DiskEvent, Done, Works}
use Rattle.lane_models.specs.LaneState.{IsShape, LaneState, Shape, fresh}
use Rattle.lane_models.specs.LaneStep.{LaneStep}
use Rattle.world_laws.specs.Along.{event_at, happened}
use Rattle.world_laws.specs.Forged.{NobodyForges}
use Rattle.world_laws.specs.Rounds.{Each}
use Rattle.world_laws.specs.Settle.{OfLane, SettleEntry}
use Rattle.world_laws.specs.Sums.{IsUnforged}
use Rattle.world_laws.proofs.Along.{lane_step, lanes_run, many_stay}
use Rattle.lane_kinds.proofs.Places.{get_within}
use Rattle.world_laws.proofs.LaneLists.{each_set, each_there}
use Rattle.world_laws.specs.World.{AreShapes, WorldState, WorldStep, fresh_world}
use Rattle.world_laws.proofs.Counted.{count_behind, count_more, lane_counted}
use Rattle.world_laws.proofs.EntryCounts.{all_counts, counts_le, lane_le, run_of}
use Rattle.world_laws.proofs.FailedStays.{failed_stays}
use Rattle.world_laws.proofs.Fives.{five}
use Rattle.world_laws.proofs.ImageFaults.{few_counted, none_stored, run_faults}
use Rattle.world_laws.proofs.Forging.{forged_by_events}
use Rattle.world_laws.proofs.LawFacts.{clean_before, log_clean}
use Rattle.world_laws.proofs.StatusLaws.{run_tells}
use Rattle.world_laws.specs.Failures.{NeverFailed, in_entry, is_failed_done, is_failed_store}
use Rattle.world_laws.specs.Statuses.{CarriesAsAsked, StatusAt, TellsStore}

-- EACH LANE of a world was run from a fresh one of a sound shape
sound_at : (first : ℕ) (shapes : List Shape) (k : ℕ) (shape : Shape) → AreShapes first shapes → slice_get shapes k ≡ Some shape → IsShape shape
sound_at first [] k shape are there = absurd (cc there)
sound_at first (x ∷ shapes) zero shape are there = let same : x ≡ shape = cc there in subst IsShape same are.0
sound_at first (x ∷ shapes) (suc k) shape are there = sound_at (first + x.blocks) shapes k shape are.2 there

record LaneIn (shapes : List Shape) (entries : List SettleEntry) (w : WorldState) (k : ℕ) : Type 0 where
  shape : Shape
  shape_is : slice_get shapes k ≡ Some shape
  sound : IsShape shape
  lane : LaneState
  lane_is : slice_get w.lanes k ≡ Some lane
  run : Run LaneStep (fresh shape) (happened k entries) lane

lane_in : (shapes : List Shape) (image : ImageState) (entries : List SettleEntry) (w : WorldState) (k : ℕ) → AreShapes 0 shapes → Run WorldStep (fresh_world shapes image) entries w → k < length shapes
    → LaneIn shapes entries w k
lane_in shapes image entries w k are run below =
    let runs = lanes_run shapes image entries w run in
    let shape = get_within shapes k below in
    let lane = get_within w.lanes k (omega (arith, below, runs.many)) in
    grind (arith, sound_at)

same_there : {X : Type 0} (xs : List X) (k : ℕ) (x y : X) → slice_get xs k ≡ Some x → slice_get xs k ≡ Some y → x ≡ y
same_there xs k x y one other = let both : Some x ≡ Some y = sym one ∙ other in cc both

-- STATUSES
pub world_tells : (shapes : List Shape) (image : ImageState) (entries : List SettleEntry) (w : WorldState) (k : ℕ) (shape : Shape) → AreShapes 0 shapes
    → Run WorldStep (fresh_world shapes image) entries w → slice_get shapes k ≡ Some shape → Lawful StatusAt after (nothing_yet shape) (happened k entries)
world_tells shapes image entries w k shape are run there =
    let lane = lane_in shapes image entries w k are run (slice_get_within shapes k shape there) in
    let same : lane.shape ≡ shape = same_there shapes k lane.shape shape lane.shape_is there in
    subst (λ (x : Shape). Lawful StatusAt after (nothing_yet x) (happened k entries)) same (run_tells lane.shape (happened k entries) lane.lane lane.sound lane.run)

-- COUNTS
lane_count : (shapes : List Shape) (image : ImageState) (entries : List SettleEntry) (w : WorldState) (k : ℕ) → AreShapes 0 shapes → Run WorldStep (fresh_world shapes image) entries w
    → k < length shapes → ((s : LaneState) → slice_get w.lanes k ≡ Some s → s.wire.forged ≡ false) → count_by is_failed_done (happened k entries) ≤ count_by is_failed_store (happened k entries)
lane_count shapes image entries w k are run below clean =
    let lane = lane_in shapes image entries w k are run below in
    lane_counted lane.shape (happened k entries) lane.lane lane.sound lane.run (clean lane.lane lane.lane_is)

world_le : (shapes : List Shape) (image : ImageState) (entries : List SettleEntry) (w : WorldState) → AreShapes 0 shapes → Run WorldStep (fresh_world shapes image) entries w
    → Each IsUnforged w.lanes → count_by (in_entry is_failed_done) entries ≤ count_by (in_entry is_failed_store) entries
world_le shapes image entries w are run clean =
    let many = length (map fresh shapes) in
    let of = run_of (fresh_world shapes image) entries w run in
    let long : many ≡ length shapes = sym (many_stay (fresh_world shapes image) entries w run) ∙ (lanes_run shapes image entries w run).many in
    omega (
      arith,
      all_counts is_failed_done many entries of,
      all_counts is_failed_store many entries of,
      counts_le is_failed_done is_failed_store 0 many entries
          (λ j since below. lane_count shapes image entries w j are run (omega (arith, below, long)) (λ s there. each_there IsUnforged w.lanes j s clean there)),
    )

world_faults : (shapes : List Shape) (image : ImageState) (entries : List SettleEntry) (w : WorldState) → Run WorldStep (fresh_world shapes image) entries w
    → image.faults ≡ 0 → length entries < 2 ^ 63 → w.image.faults ≡ count_by (in_entry is_failed_store) entries
world_faults shapes image entries w run none short = grind (arith, count_by-le-length, run_faults, few_counted)

pub world_counted : (shapes : List Shape) (image : ImageState) (entries : List SettleEntry) (w : WorldState) → AreShapes 0 shapes → Run WorldStep (fresh_world shapes image) entries w
    → Each IsUnforged w.lanes → image.faults ≡ 0 → length entries < 2 ^ 63 → count_by (in_entry is_failed_done) entries ≤ w.image.faults
world_counted shapes image entries w are run clean none short =
    omega (arith, world_le shapes image entries w are run clean, world_faults shapes image entries w run none short)

-- and of one lane that nobody forged, whatever was forged of others
pub disk_counted : (shapes : List Shape) (image : ImageState) (entries : List SettleEntry) (w : WorldState) (k : ℕ) → AreShapes 0 shapes → Run WorldStep (fresh_world shapes image) entries w
    → k < length shapes → NobodyForges (happened k entries) → image.faults ≡ 0 → length entries < 2 ^ 63 → count_by is_failed_done (happened k entries) ≤ w.image.faults
disk_counted shapes image entries w k are run below unforged none short =
    let lane = lane_in shapes image entries w k are run below in
    let clean : lane.lane.wire.forged ≡ false = (forged_by_events lane.shape (happened k entries) lane.lane lane.run).1 unforged in
    omega (
      arith,
      lane_counted lane.shape (happened k entries) lane.lane lane.sound lane.run clean,
      lane_le is_failed_store k entries,
      world_faults shapes image entries w run none short,
    )

-- AN IMAGE THAT NEVER FAILED
fresh_well : (shapes : List Shape) → Each NeverFailed (map fresh shapes)
fresh_well [] = tt
fresh_well (shape ∷ shapes) = (refl, fresh_well shapes)

not_counted : (b : Bool) (n : ℕ) → cond b 1 0 + n ≡ 0 → b ≡ false
not_counted false n none = refl
not_counted true n none = absurd (omega (arith, none))

entry_well : (w : WorldState) (entry : SettleEntry) (v : WorldState) → WorldStep w entry v → in_entry is_failed_store entry ≡ false → Each NeverFailed w.lanes → Each NeverFailed v.lanes
entry_well w (OfLane k event) v step well all =
    subst (Each NeverFailed) (sym step.lanes)
    (each_set NeverFailed w.lanes k step.after all
    (failed_stays step.lane event step.after (lane_step step.lane w.image event step.after v.image step.moves) well (each_there NeverFailed w.lanes k step.lane all step.there)))
entry_well w _ v step well all = subst (λ (x : WorldState). Each NeverFailed x.lanes) (sym step) all

run_well : (w : WorldState) (entries : List SettleEntry) (v : WorldState) → Run WorldStep w entries v → count_by (in_entry is_failed_store) entries ≡ 0 → Each NeverFailed w.lanes → Each NeverFailed v.lanes
run_well w [] v run none all = subst (λ (x : WorldState). Each NeverFailed x.lanes) run all
run_well w (entry ∷ entries) v run none all =
    let counted : cond (in_entry is_failed_store entry) 1 0 + count_by (in_entry is_failed_store) entries ≡ 0 = sym (count_more (in_entry is_failed_store) entry entries) ∙ none in
    let well : in_entry is_failed_store entry ≡ false = not_counted (in_entry is_failed_store entry) (count_by (in_entry is_failed_store) entries) counted in
    run_well run.0 entries v run.2 (omega (arith, counted)) (entry_well w entry run.0 run.1 well all)

pub lanes_well : (shapes : List Shape) (image : ImageState) (entries : List SettleEntry) (w : WorldState) → Run WorldStep (fresh_world shapes image) entries w → w.image.faults ≡ 0 → Each NeverFailed w.lanes
lanes_well shapes image entries w run none = run_well (fresh_world shapes image) entries w run (none_stored (fresh_world shapes image) entries w run none) (fresh_well shapes)

-- EACH COMPLETION of a lane that nobody forged then has the status 0
happened_behind : (k : ℕ) (before later : List SettleEntry) → happened k (before ++ later) ≡ happened k before ++ happened k later
happened_behind k [] later = refl
happened_behind k (entry ∷ before) later =
    ap (λ (events : List DiskEvent). event_at k entry ++ events) (happened_behind k before later) ∙ sym (append_assoc (event_at k entry) (happened k before) (happened k later))

own_happened : (k : ℕ) (event : DiskEvent) (later : List SettleEntry) → happened k (OfLane k event ∷ later) ≡ event ∷ happened k later
own_happened k event later = ap (λ (b : Bool). (if b then event ∷ [] else []) ++ happened k later) (eq-eqb k k refl)

happened_at : (k : ℕ) (before later : List SettleEntry) (event : DiskEvent) → happened k (before ++ OfLane k event ∷ later) ≡ happened k before ++ event ∷ happened k later
happened_at k before later event =
    happened_behind k before (OfLane k event ∷ later) ∙ ap (λ (events : List DiskEvent). happened k before ++ events) (own_happened k event later)

-- a completion with the status 5 counts
failed_counts : (before later : List DiskEvent) (id operation status : ℕ) (bytes : List ℕ) → status ≡ 5
    → 1 ≤ count_by is_failed_done (before ++ Works (Done id operation status bytes) ∷ later)
failed_counts before later id operation status bytes failed =
    let event : DiskEvent = Works (Done id operation status bytes) in
    let one : five status ≡ 1 = ap five failed in
    omega (arith, one, count_behind is_failed_done before (event ∷ later), count_more is_failed_done event later)

well_or_failed : (events before later : List DiskEvent) (id operation status : ℕ) (bytes : List ℕ) → events ≡ before ++ Works (Done id operation status bytes) ∷ later
    → count_by is_failed_done events ≡ 0 → TellsStore status → status ≡ 0
well_or_failed events before later id operation status bytes is none (inl well) = well
well_or_failed events before later id operation status bytes is none (inr failed) =
    absurd (omega (arith, none, ap (count_by is_failed_done) is, failed_counts before later id operation status bytes failed))

carries_tells : (l : DiskLog) (id status : ℕ) (bytes : List ℕ) → CarriesAsAsked l.work id status bytes → TellsStore status
carries_tells l id status bytes carries = grind arith

tells_in : (shape : Shape) (before later : List DiskEvent) (id operation status : ℕ) (bytes : List ℕ)
    → Lawful StatusAt after (nothing_yet shape) (before ++ Works (Done id operation status bytes) ∷ later)
    → (log_of after (nothing_yet shape) (before ++ Works (Done id operation status bytes) ∷ later)).wire.forged ≡ false → TellsStore status
tells_in shape before later id operation status bytes lawful clean =
    let event : DiskEvent = Works (Done id operation status bytes) in
    let l = log_of after (nothing_yet shape) before in
    let behind : (log_of after l (event ∷ later)).wire.forged ≡ false =
    subst (λ (x : DiskLog). x.wire.forged ≡ false) (log_append after (nothing_yet shape) before (event ∷ later)) clean in
    carries_tells l id status bytes ((lawful_split StatusAt after (nothing_yet shape) before (event ∷ later) lawful).1.0 (clean_before l (event ∷ later) behind))

done_on : (shape : Shape) (events before later : List DiskEvent) (s : LaneState) (id operation status : ℕ) (bytes : List ℕ) → IsShape shape → Run LaneStep (fresh shape) events s → s.wire.forged ≡ false
    → count_by is_failed_store events ≡ 0 → events ≡ before ++ Works (Done id operation status bytes) ∷ later → status ≡ 0
done_on shape events before later s id operation status bytes sound run clean none is =
    let few : count_by is_failed_done events ≡ 0 = omega (arith, lane_counted shape events s sound run clean, none) in
    let tells : TellsStore status =
    tells_in shape before later id operation status bytes (subst (Lawful StatusAt after (nothing_yet shape)) is (run_tells shape events s sound run))
    (subst (λ (es : List DiskEvent). (log_of after (nothing_yet shape) es).wire.forged ≡ false) is (log_clean shape events s sound run clean)) in
    well_or_failed events before later id operation status bytes is few tells

pub done_well : (shapes : List Shape) (image : ImageState) (entries : List SettleEntry) (w : WorldState) (k : ℕ) (s : LaneState) (before later : List SettleEntry) (id operation status : ℕ) (bytes : List ℕ)
    → AreShapes 0 shapes → Run WorldStep (fresh_world shapes image) entries w → w.image.faults ≡ 0 → slice_get w.lanes k ≡ Some s → s.wire.forged ≡ false
    → entries ≡ before ++ OfLane k (Works (Done id operation status bytes)) ∷ later → status ≡ 0
done_well shapes image entries w k s before later id operation status bytes are run none there clean is =
    let event : DiskEvent = Works (Done id operation status bytes) in
    let below : k < length shapes = omega (arith, slice_get_within w.lanes k s there, (lanes_run shapes image entries w run).many) in
    let lane = lane_in shapes image entries w k are run below in
    let same : s ≡ lane.lane = same_there w.lanes k s lane.lane there lane.lane_is in
    let unforged : lane.lane.wire.forged ≡ false = subst (λ (x : LaneState). x.wire.forged ≡ false) same clean in
    let stored : count_by is_failed_store (happened k entries) ≡ 0 =
    omega (arith, lane_le is_failed_store k entries, none_stored (fresh_world shapes image) entries w run none) in
    done_on lane.shape (happened k entries) (happened k before) (happened k later) lane.lane id operation status bytes lane.sound lane.run unforged stored
    (ap (happened k) is ∙ happened_at k before later event)
