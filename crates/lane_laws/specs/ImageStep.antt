-- What an event of a lane does to the image of its disk, and to the content of the requests that are done.
use Rattle.std.specs.Prelude.{◌≡◌, ℕ, ◌+◌, ◌*◌, Bool, true, false, List, [], ◌∷◌, drop, length, take, Option, Some, None}
use Rattle.vdisk_msg.specs.declared.request.Request.{Request}
use Rattle.vdisk_msg.specs.Requests.{after_request}
use Rattle.vio_bytes.specs.Place.{put_at}
use Rattle.vio_bytes.specs.Range.{range_at}
use Rattle.lane_models.specs.DiskEvent.{DiskEvent, Done, Stored, Works}
use Rattle.lane_models.specs.LaneState.{LaneState, Shape}
use Rattle.lane_models.specs.LaneStep.{ServerWorks}
use Rattle.lane_models.specs.ServerState.{Progress, Reads, Work, Writes}

-- the first pending request is done
abbrev pub front_done : List ℕ → List Request → List ℕ
front_done content [] = content
front_done content (request ∷ behind) = after_request content request

abbrev pub content_after : LaneState → List ℕ → DiskEvent → List ℕ
content_after s content (Works (Done id operation status bytes)) = front_done content s.client.pending
content_after s content _ = content

-- A unit that is read is the image's, and one of a write is put there; of a call that failed nothing is said of the range.
abbrev pub UnitDoes : Progress → ℕ → List ℕ → List ℕ → List ℕ → Type 0
UnitDoes (Reads unit) block gave image next = (gave ≡ range_at (512 * block) (length gave) image) × (next ≡ image)
UnitDoes (Writes unit bytes) block gave image next = next ≡ put_at (512 * block) bytes image
UnitDoes _ block gave image next = next ≡ image

abbrev pub WorkDoes : Option Work → ℕ → List ℕ → List ℕ → List ℕ → Type 0
WorkDoes None block gave image next = next ≡ image
WorkDoes (Some work) block gave image next = UnitDoes work.progress block gave image next

abbrev pub StoreDoes : Bool → Option Work → ℕ → List ℕ → List ℕ → List ℕ → Type 0
StoreDoes true work block gave image next = length next ≡ length image
StoreDoes false work block gave image next = WorkDoes work block gave image next

pub record StoresOn (s : LaneState) (operation block count : ℕ) (failed : Bool) (t : LaneState) (image next : List ℕ) : Type 0 where
  pub gave : List ℕ
  pub step : ServerWorks s gave (Stored operation block count failed) t
  pub does : StoreDoes failed s.server.work block gave image next

-- only a unit that is stored changes the image
abbrev pub ImageStep : LaneState → DiskEvent → LaneState → List ℕ → List ℕ → Type 0
ImageStep s (Works (Stored operation block count failed)) t image next = StoresOn s operation block count failed t image next
ImageStep s _ t image next = next ≡ image

-- THE DISK in a store: its region of the store's bytes
abbrev pub region_of : Shape → List ℕ → List ℕ
region_of shape store = range_at (512 * shape.first) (512 * shape.blocks) store

-- what lies before the region and after it
pub record SameAround (shape : Shape) (store new : List ℕ) : Type 0 where
  pub before : take (512 * shape.first) new ≡ take (512 * shape.first) store
  pub behind : drop (512 * (shape.first + shape.blocks)) new ≡ drop (512 * (shape.first + shape.blocks)) store
