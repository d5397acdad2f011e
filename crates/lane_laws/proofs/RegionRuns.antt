-- Along every run of a lane that nobody forged and whose store didn't fail a server's step with its store is a step of the disk's image.
use Rattle.std.proofs.Common.{◌≡◌, ℕ, ◌+◌, ◌*◌, ◌≤◌, Bool, false, Some, List, length, sym, ap, ◌∙◌, subst}
use Rattle.runs.specs.Lawful.{log_of}
use Rattle.runs.specs.Run.{Run}
use Rattle.lane_laws.specs.DiskLog.{after, nothing_yet}
use Rattle.lane_models.specs.DiskEvent.{Asks, DiskEvent, Done, Finished, Calms, Stored, Works}
use Rattle.lane_models.specs.LaneState.{IsShape, LaneState, Shape, fresh}
use Rattle.lane_models.specs.LaneStep.{LaneStep, ServerWorks}
use Rattle.lane_models.specs.Served as served
use Rattle.lane_laws.specs.ImageStep.{ImageStep, SameAround, region_of}
use Rattle.lane_laws.proofs.FirstStays.{run_first}
use Rattle.lane_laws.proofs.LaneCores.{shape_of as log_shape}
use Rattle.lane_laws.proofs.FailedRuns.{stored_well}
use Rattle.lane_laws.proofs.NearRuns.{run_step}
use Rattle.lane_laws.proofs.Regions.{InRegion, around_same, store_region}

-- what a served step comes to
pub record ServedImage (shape : Shape) (s : LaneState) (event : DiskEvent) (t : LaneState) (store new : List ℕ) : Type 0 where
  pub image : ImageStep s event t (region_of shape store) (region_of shape new)
  pub around : SameAround shape store new

still : (shape : Shape) (s : LaneState) (event : DiskEvent) (t : LaneState) (store new : List ℕ) → (new ≡ store → ImageStep s event t (region_of shape store) (region_of shape new)) → Some new ≡ Some store
    → ServedImage shape s event t store new
still shape s event t store new image is = let same : new ≡ store = cc is in record { image = image same; around = around_same shape store new same }

stored_image : (shape : Shape) (events : List DiskEvent) (s : LaneState) (operation block count : ℕ) (failed : Bool) (gave store new : List ℕ) (t : LaneState) → IsShape shape
    → Run LaneStep (fresh shape) events s → t.wire.forged ≡ false → t.failed ≡ false → 512 * (shape.first + shape.blocks) ≤ length store → ServerWorks s gave (Stored operation block count failed) t
    → served.StoreDoes s.server.work s.server block failed gave (Some store) (Some new) → failed ≡ false → ServedImage shape s (Works (Stored operation block count failed)) t store new
stored_image shape events s operation block count failed gave store new t sound run unforged well room step does none =
    let l = log_of after (nothing_yet shape) events in
    let here = run_step shape events s (Works (Stored operation block count failed)) t sound run (gave, step) unforged well in
    let stands = here.at.before.known.stands in
    let blocks : s.client.blocks ≡ shape.blocks = stands.blocks ∙ ap (λ (x : Shape). x.blocks) (stands.shape ∙ log_shape (nothing_yet shape) events) in
    let step_well : ServerWorks s gave (Stored operation block count false) t = subst (λ (f : Bool). ServerWorks s gave (Stored operation block count f) t) none step in
    let does_well = subst (λ (f : Bool). served.StoreDoes s.server.work s.server block f gave (Some store) (Some new)) none does in
    let region : InRegion shape s.server.work block gave store new =
    store_region shape s l operation block count gave store new t here.at.before here.contents (run_first shape events s sound run) blocks room step_well does_well in
    subst (λ (f : Bool). ServedImage shape s (Works (Stored operation block count f)) t store new) (sym none)
    (record { image = record { gave = gave; step = step_well; does = region.does }; around = region.around })

served_by : (shape : Shape) (events : List DiskEvent) (s : LaneState) (event : DiskEvent) (gave store new : List ℕ) (t : LaneState) → IsShape shape → Run LaneStep (fresh shape) events s
    → t.wire.forged ≡ false → t.failed ≡ false → 512 * (shape.first + shape.blocks) ≤ length store → served.ServedStep s gave event t → served.StoreDid s event gave (Some store) (Some new)
    → ServedImage shape s event t store new
served_by shape events s (Works (Stored operation block count failed)) gave store new t sound run unforged well room step does =
    stored_image shape events s operation block count failed gave store new t sound run unforged well room step does (stored_well s gave operation block count failed t step well)
served_by shape events s (Works (Done id operation status bytes)) gave store new t sound run unforged well room step does =
    still shape s (Works (Done id operation status bytes)) t store new (λ same. ap (region_of shape) same) does
served_by shape events s (Works (Finished slot status)) gave store new t sound run unforged well room step does =
    still shape s (Works (Finished slot status)) t store new (λ same. ap (region_of shape) same) does
served_by shape events s (Asks event) gave store new t sound run unforged well room step does = absurd step
served_by shape events s (Calms event) gave store new t sound run unforged well room step does = absurd step
served_by shape events s event gave store new t sound run unforged well room step does = still shape s event t store new (λ same. ap (region_of shape) same) does

pub run_served : (shape : Shape) (events : List DiskEvent) (s : LaneState) (event : DiskEvent) (t : LaneState) (store new : List ℕ) → IsShape shape → Run LaneStep (fresh shape) events s
    → t.wire.forged ≡ false → t.failed ≡ false → 512 * (shape.first + shape.blocks) ≤ length store → served.Served s (Some store) event t (Some new)
    → ImageStep s event t (region_of shape store) (region_of shape new)
run_served shape events s event t store new sound run unforged well room step = (served_by shape events s event step.gave store new t sound run unforged well room step.step step.store).image

pub run_around : (shape : Shape) (events : List DiskEvent) (s : LaneState) (event : DiskEvent) (t : LaneState) (store new : List ℕ) → IsShape shape → Run LaneStep (fresh shape) events s
    → t.wire.forged ≡ false → t.failed ≡ false → 512 * (shape.first + shape.blocks) ≤ length store → served.Served s (Some store) event t (Some new) → SameAround shape store new
run_around shape events s event t store new sound run unforged well room step = (served_by shape events s event step.gave store new t sound run unforged well room step.step step.store).around
