-- A completion in the middle of a run: a disk that nobody forged and whose store didn't fail until the end was so at the completion too.
use Rattle.std.proofs.Common.{◌≡◌, ℕ, false, Some, List, [], ◌∷◌, ◌++◌, slice_get, ap, ◌∙◌}
use Rattle.runs.specs.Lawful.{log_of}
use Rattle.runs.specs.Run.{Run, run_split}
use Rattle.disk_law.specs.ListState.{ImageState}
use Rattle.lane_laws.specs.DiskLog.{after, nothing_yet}
use Rattle.lane_models.specs.DiskEvent.{DiskEvent, Done, Works}
use Rattle.lane_models.specs.LaneState.{LaneState, Shape}
use Rattle.lane_models.specs.LaneStep.{LaneStep}
use Rattle.lane_laws.proofs.FailedRuns.{failed_before}
use Rattle.lane_laws.specs.Headline.{CompletionShows}
use Rattle.lane_laws.specs.ImageStep.{region_of}
use Rattle.world_laws.specs.Along.{happened}
use Rattle.world_laws.specs.Settle.{OfLane, SettleEntry}
use Rattle.world_laws.proofs.Along.{lane_runs}
use Rattle.lane_kinds.proofs.Places.{get_set}
use Rattle.world_laws.specs.World.{IsWorld, OneMoves, WorldState, WorldStep, fresh_world}
use Rattle.world_laws.proofs.Contents.{own_completion}
use Rattle.world_laws.proofs.Forging.{none_forged}

-- A LANE whose calls didn't fail
failed_past : (s : LaneState) (later : List DiskEvent) (t : LaneState) → Run LaneStep s later t → t.failed ≡ false → s.failed ≡ false
failed_past s [] t more well = ap (λ (x : LaneState). x.failed) more ∙ well
failed_past s (event ∷ later) t more well = failed_before s event more.0 more.1 (failed_past more.0 later t more.2 well)

-- A FRONT of a run that ends with a completion
module _ (shapes : List Shape) (image : ImageState) (first : List ℕ) (k : ℕ) (shape : Shape) (world : IsWorld shapes image) (told : image.told ≡ Some first) (there : slice_get shapes k ≡ Some shape) where
  pub front_completion : (before : List SettleEntry) (id operation status : ℕ) (bytes : List ℕ) (behind : List SettleEntry) (w : WorldState) (s : LaneState)
      → Run WorldStep (fresh_world shapes image) (before ++ OfLane k (Works (Done id operation status bytes)) ∷ behind) w → slice_get w.lanes k ≡ Some s → s.wire.forged ≡ false → s.failed ≡ false
      → CompletionShows (region_of shape first) (log_of after (nothing_yet shape) (happened k before)) status bytes
  front_completion before id operation status bytes behind w s run now unforged well =
      let entry : SettleEntry = OfLane k (Works (Done id operation status bytes)) in
      let parts = run_split WorldStep (fresh_world shapes image) w before (entry ∷ behind) run in
      let at : WorldState = parts.0 in
      let past : Run WorldStep (fresh_world shapes image) before at = parts.1 in
      let next : WorldState = parts.2.0 in
      let one : OneMoves at k (Works (Done id operation status bytes)) next = parts.2.1 in
      let here : slice_get next.lanes k ≡ Some one.after = ap (λ (xs : List LaneState). slice_get xs k) one.lanes ∙ get_set at.lanes k one.lane one.after one.there in
      let later : Run LaneStep one.after (happened k behind) s = lane_runs next behind w k one.after s parts.2.2 here now in
      own_completion shapes image first k shape world told there before at id operation status bytes next one.after past one here
      (none_forged one.after (happened k behind) s later unforged).0
      (failed_past one.after (happened k behind) s later well)
