-- Whether a call of the store failed: a lane has it by each event as its log has it, and so along every run.
use Rattle.std.proofs.Common.{◌≡◌, ℕ, Bool, true, false, List, refl, sym, ap, ◌∙◌}
use Rattle.std.specs.Prelude.{◌||◌, ⊤}
use Rattle.runs.specs.Lawful.{log_of, run_lawful}
use Rattle.runs.specs.Run.{Run}
use Rattle.lane_models.specs.DiskEvent.{DiskEvent, Stored, Works}
use Rattle.lane_models.specs.LaneState.{LaneState, Shape, fresh}
use Rattle.lane_models.specs.LaneStep.{LaneStep, ServerWorks}
use Rattle.lane_laws.specs.DiskLog.{DiskLog, after, after_failed, nothing_yet}
use Rattle.lane_laws.proofs.LaneViews.{lane_view}

-- ONE EVENT
pub failed_after : (s : LaneState) (event : DiskEvent) (t : LaneState) → LaneStep s event t → t.failed ≡ after_failed s.failed event
failed_after s event t step = ap (λ (x : LaneState). x.failed) (lane_view s event t step).is

-- A STORE that failed stays so
either_false : (a b : Bool) → (a || b) ≡ false → (a ≡ false) × (b ≡ false)
either_false false b is = (refl, is)
either_false true b is = absurd (cc is)

well_before : (b : Bool) (event : DiskEvent) → after_failed b event ≡ false → b ≡ false
well_before b (Works (Stored operation block count failed)) is = (either_false b failed is).0
well_before b _ is = is

pub failed_before : (s : LaneState) (event : DiskEvent) (t : LaneState) → LaneStep s event t → t.failed ≡ false → s.failed ≡ false
failed_before s event t step not = well_before s.failed event (sym (failed_after s event t step) ∙ not)

-- a unit whose store didn't fail
pub stored_well : (s : LaneState) (gave : List ℕ) (operation block count : ℕ) (failed : Bool) (t : LaneState) → ServerWorks s gave (Stored operation block count failed) t → t.failed ≡ false → failed ≡ false
stored_well s gave operation block count failed t step not = (either_false s.failed failed (sym (ap (λ (x : LaneState). x.failed) step.is) ∙ not)).1

-- ALONG A RUN
abbrev FailedIs : LaneState → DiskLog → Type 0
FailedIs s l = s.failed ≡ l.failed

failed_step : (s : LaneState) (l : DiskLog) (event : DiskEvent) (t : LaneState) → FailedIs s l → LaneStep s event t → ⊤ × FailedIs t (after l event)
failed_step s l event t same step = (tt, failed_after s event t step ∙ ap (λ (b : Bool). after_failed b event) same)

pub run_failed : (shape : Shape) (events : List DiskEvent) (s : LaneState) → Run LaneStep (fresh shape) events s → s.failed ≡ (log_of after (nothing_yet shape) events).failed
run_failed shape events s run =
    (run_lawful LaneStep (λ (l : DiskLog) (e : DiskEvent). ⊤) after FailedIs failed_step (fresh shape) s (nothing_yet shape) events refl run).1
