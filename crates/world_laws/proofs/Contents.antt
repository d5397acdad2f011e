-- What a disk's own image shows and holds, in the run of its world.
use Rattle.std.proofs.Common.{◌≡◌, ℕ, ◌*◌, false, Some, List, length, slice_get, refl, sym, ap, ◌∙◌, subst, arith}
use Rattle.runs.specs.Lawful.{log_of}
use Rattle.runs.specs.Run.{Run}
use Rattle.vio_bytes.proofs.Ranges.{length-range_at}
use Rattle.disk_law.specs.ListState.{ImageState}
use Rattle.lane_laws.specs.DiskLog.{after, nothing_yet}
use Rattle.lane_models.specs.DiskEvent.{DiskEvent, Done, Works}
use Rattle.lane_models.specs.LaneState.{LaneState, Shape, fresh}
use Rattle.lane_models.specs.LaneStep.{LaneStep}
use Rattle.lane_laws.specs.Blocks.{after_requests}
use Rattle.lane_laws.specs.Headline.{CompletionShows, HoldsDone, ImagedStep, fresh_image}
use Rattle.lane_laws.specs.ImageStep.{region_of}
use Rattle.lane_laws.proofs.HeadlineRuns.{run_all_done, run_completion, run_image}
use Rattle.lane_laws.proofs.FailedRuns.{failed_before}
use Rattle.world_laws.specs.Along.{happened}
use Rattle.world_laws.specs.Settle.{OfLane, SettleEntry}
use Rattle.world_laws.proofs.Along.{lane_step}
use Rattle.lane_kinds.proofs.Places.{get_set}
use Rattle.world_laws.specs.World.{IsWorld, WorldState, WorldStep, fresh_world}
use Rattle.world_laws.specs.OwnImage.{OwnImage}
use Rattle.world_laws.proofs.ImageKeeping.{some_is}
use Rattle.world_laws.proofs.Forging.{forged_before}
use Rattle.world_laws.proofs.OwnImages.{has_own, of_lane}
use Rattle.world_laws.proofs.ShapePlaces.{ShapeAt, shape_at, world_holds}
use Rattle.world_laws.proofs.WorldRuns.{LaneAt, lane_at}

module _ (shapes : List Shape) (image : ImageState) (first : List ℕ) (k : ℕ) (shape : Shape) (world : IsWorld shapes image) (told : image.told ≡ Some first) (there : slice_get shapes k ≡ Some shape) where
  disk : ShapeAt 0 shapes shape
  disk = shape_at 0 shapes k shape world.shapes_are there

  -- the region is as long as the disk
  region_long : length (region_of shape first) ≡ 512 * shape.blocks
  region_long = grind (arith, world_holds, disk, length-range_at)

  -- A COMPLETION
  pub own_completion : (past : List SettleEntry) (w : WorldState) (id operation status : ℕ) (bytes : List ℕ) (v : WorldState) (t : LaneState) → Run WorldStep (fresh_world shapes image) past w
      → WorldStep w (OfLane k (Works (Done id operation status bytes))) v → slice_get v.lanes k ≡ Some t → t.wire.forged ≡ false → t.failed ≡ false
      → CompletionShows (region_of shape first) (log_of after (nothing_yet shape) (happened k past)) status bytes
  own_completion past w id operation status bytes v t run one now unforged well =
      let event : DiskEvent = Works (Done id operation status bytes) in
      let is : t ≡ one.after = some_is t one.after (sym now ∙ ap (λ (xs : List LaneState). slice_get xs k) one.lanes ∙ get_set w.lanes k one.lane one.after one.there) in
      let at : LaneAt shapes past w k event v one = lane_at shapes image past w k event v world run one in
      let same : at.shape ≡ shape = some_is at.shape shape (sym at.there ∙ there) in
      let lane_run : Run LaneStep (fresh shape) (happened k past) one.lane = subst (λ (x : Shape). Run LaneStep (fresh x) (happened k past) one.lane) same at.run in
      let step : LaneStep one.lane event one.after = lane_step one.lane w.image event one.after v.image one.moves in
      let clean : one.after.wire.forged ≡ false = ap (λ (x : LaneState). x.wire.forged) (sym is) ∙ unforged in
      let fine : one.after.failed ≡ false = ap (λ (x : LaneState). x.failed) (sym is) ∙ well in
      let own : OwnImage shape first (happened k past) one.lane w.image.told =
      has_own shapes image first k shape world told there past w run one.lane one.there
      (forged_before one.lane event one.after step clean) (failed_before one.lane event one.after step fine) in
      run_completion shape (region_of shape first) (happened k past) (of_lane one.lane (region_of shape own.now)) id operation status bytes (of_lane one.after (region_of shape own.now)) disk.sound region_long
      own.run (step, refl) clean fine

  -- WHAT IT HOLDS
  own_now : (entries : List SettleEntry) (w : WorldState) (s : LaneState) (now : List ℕ) → Run WorldStep (fresh_world shapes image) entries w → slice_get w.lanes k ≡ Some s → s.wire.forged ≡ false
      → s.failed ≡ false → w.image.told ≡ Some now → Run ImagedStep (fresh_image shape (region_of shape first)) (happened k entries) (of_lane s (region_of shape now))
  own_now entries w s now run lane unforged well told_now =
      let own : OwnImage shape first (happened k entries) s w.image.told = has_own shapes image first k shape world told there entries w run s lane unforged well in
      let same : own.now ≡ now = some_is own.now now (sym own.told_is ∙ told_now) in
      subst (λ (bytes : List ℕ). Run ImagedStep (fresh_image shape (region_of shape first)) (happened k entries) (of_lane s (region_of shape bytes))) same own.run

  pub own_holds : (entries : List SettleEntry) (w : WorldState) (s : LaneState) (now : List ℕ) → Run WorldStep (fresh_world shapes image) entries w → slice_get w.lanes k ≡ Some s → s.wire.forged ≡ false
      → s.failed ≡ false → w.image.told ≡ Some now → HoldsDone shape.blocks (region_of shape first) (log_of after (nothing_yet shape) (happened k entries)) (region_of shape now)
  own_holds entries w s now run lane unforged well told_now =
      run_image shape (region_of shape first) (happened k entries) (of_lane s (region_of shape now)) disk.sound region_long (own_now entries w s now run lane unforged well told_now) unforged well

  pub own_all : (entries : List SettleEntry) (w : WorldState) (s : LaneState) (now : List ℕ) → Run WorldStep (fresh_world shapes image) entries w → slice_get w.lanes k ≡ Some s → s.wire.forged ≡ false
      → s.failed ≡ false → w.image.told ≡ Some now
      → (log_of after (nothing_yet shape) (happened k entries)).work.done ≡ length (log_of after (nothing_yet shape) (happened k entries)).work.issued
      → region_of shape now ≡ after_requests (region_of shape first) (log_of after (nothing_yet shape) (happened k entries)).work.issued
  own_all entries w s now run lane unforged well told_now all =
      run_all_done shape (region_of shape first) (happened k entries) (of_lane s (region_of shape now)) disk.sound region_long (own_now entries w s now run lane unforged well told_now) unforged well all
