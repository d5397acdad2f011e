-- A lane beside the image of its disk, from a first content on; what a completed read shows, and what the image holds, in the writes that were
-- accepted.
use Rattle.std.specs.Prelude.{◌≡◌, ℕ, ◌+◌, ◌*◌, ◌<◌, ◌≤◌, ◌⊎◌, List, [], length, take, Some, slice_get}
use Rattle.vdisk_msg.specs.declared.request.Request.{Request}
use Rattle.vdisk_msg.specs.declared.request.Request.TheVariants.{Flush, Read, Write}
use Rattle.lane_laws.specs.DiskLog.{DiskLog}
use Rattle.lane_models.specs.DiskEvent.{DiskEvent}
use Rattle.lane_models.specs.LaneState.{LaneState, Shape, fresh}
use Rattle.lane_models.specs.LaneStep.{LaneStep}
use Rattle.lane_laws.specs.Blocks.{WritesBlock, Reaches, after_requests, block_at}
use Rattle.lane_laws.specs.ImageStep.{ImageStep}

pub record Imaged : Type 0 where
  pub lane : LaneState
  pub image : List ℕ

abbrev pub fresh_image : Shape → List ℕ → Imaged
fresh_image shape first = record { lane = fresh shape; image = first }

abbrev pub ImagedStep : Imaged → DiskEvent → Imaged → Type 0
ImagedStep a event b = LaneStep a.lane event b.lane × ImageStep a.lane event b.lane a.image b.image

-- the content of the requests that are done, in order, on the first content
abbrev pub done_content : List ℕ → DiskLog → List ℕ
done_content first l = after_requests first (take l.work.done l.work.issued)

-- THE LAST WRITE of some requests that reaches a block, or the first content where none does
pub record LastAmong (requests : List Request) (b : ℕ) (bytes : List ℕ) : Type 0 where
  pub id : ℕ
  pub request : Request
  pub there : slice_get requests id ≡ Some request
  pub puts : WritesBlock request b bytes
  pub last : (other : ℕ) (behind : Request) → id < other → slice_get requests other ≡ Some behind → Reaches behind b → ⊥

pub record NoneAmong (first : List ℕ) (requests : List Request) (b : ℕ) (bytes : List ℕ) : Type 0 where
  pub none : (other : ℕ) (request : Request) → slice_get requests other ≡ Some request → Reaches request b → ⊥
  pub bytes_are : bytes ≡ block_at b first

abbrev pub LastWrite : List ℕ → List Request → ℕ → List ℕ → Type 0
LastWrite first requests b bytes = LastAmong requests b bytes ⊎ NoneAmong first requests b bytes

-- a write that was issued after the request that is done next, and was disturbed with it by a reset or a stop
pub record LaterWrite (l : DiskLog) (b : ℕ) (bytes : List ℕ) : Type 0 where
  pub id : ℕ
  pub request : Request
  pub behind : l.work.done < id
  pub disturbed : id < l.work.disturbed_below
  pub accepted : slice_get l.work.issued id ≡ Some request
  pub puts : WritesBlock request b bytes

-- WHAT A COMPLETION SHOWS: of a read, block by block, the last earlier write, or one that was disturbed with it
abbrev pub ShowsLast : List ℕ → DiskLog → Request → List ℕ → Type 0
ShowsLast first l (Read block count) bytes =
    (length bytes ≡ 512 * count)
    × ((b : ℕ) → b < count → LastWrite first (take l.work.done l.work.issued) (block + b) (block_at b bytes) ⊎ LaterWrite l (block + b) (block_at b bytes))
ShowsLast first l (Write block count fill) bytes = bytes ≡ []
ShowsLast first l Flush bytes = bytes ≡ []

pub record CompletionShows (first : List ℕ) (l : DiskLog) (status : ℕ) (bytes : List ℕ) : Type 0 where
  pub request : Request
  pub accepted : slice_get l.work.issued l.work.done ≡ Some request
  pub succeeds : status ≡ 0
  pub shows : ShowsLast first l request bytes

-- WHAT THE IMAGE HOLDS: each block is that of the requests that are done, or of a write that is accepted and isn't done
pub record PendingWrite (l : DiskLog) (b : ℕ) (bytes : List ℕ) : Type 0 where
  pub id : ℕ
  pub request : Request
  pub pending : l.work.done ≤ id
  pub accepted : slice_get l.work.issued id ≡ Some request
  pub puts : WritesBlock request b bytes

abbrev pub HoldsDone : ℕ → List ℕ → DiskLog → List ℕ → Type 0
HoldsDone blocks first l image = (b : ℕ) → b < blocks → (block_at b image ≡ block_at b (done_content first l)) ⊎ PendingWrite l b (block_at b image)
