-- THE IMAGE OF A DISK, 512 bytes a block, is near the content of the requests that are done, and so is what was read of it.
use Rattle.std.specs.Prelude.{◌≡◌, ℕ, ◌+◌, ◌-◌, ◌*◌, ◌<◌, ◌⊎◌, List, [], ◌∷◌, length}
use Rattle.vdisk_msg.specs.declared.request.Request.{Request}
use Rattle.vdisk_msg.specs.declared.request.Request.TheVariants.{Read, Write, Flush}
use Rattle.lane_models.specs.LaneState.{LaneState}
use Rattle.lane_laws.specs.Blocks.{block_at}
use Rattle.lane_laws.specs.LaneView.{View, view_of}
use Rattle.lane_laws.specs.NearContent.{NearContent, PendingPuts}
use Rattle.lane_laws.specs.ReadsNear.{DoneShow, WorkShows}

pub record NearView (blocks : ℕ) (content : List ℕ) (v : View) (image : List ℕ) : Type 0 where
  pub content_long : length content ≡ 512 * blocks
  pub image_long : length image ≡ 512 * blocks
  pub image_near : NearContent blocks content v.pending v.k v.m v.u image
  pub done : DoneShow content v
  pub work : WorkShows content v

abbrev pub IsNear : List ℕ → LaneState → List ℕ → Type 0
IsNear content s image = NearView s.client.blocks content (view_of s) image

-- WHAT A COMPLETION SHOWS of the content before it: block by block the content's bytes, or those of a write after it that was published in
-- an earlier session
abbrev pub FrontShows : List ℕ → List Request → ℕ → List ℕ → Type 0
FrontShows content [] m bytes = ⊥
FrontShows content (Read block count ∷ behind) m bytes =
    (length bytes ≡ 512 * count)
    × ((b : ℕ) → b < count → (block_at b bytes ≡ block_at (block + b) content) ⊎ PendingPuts behind 0 (m - 1) (block + b) (block_at b bytes))
FrontShows content (Write block count fill ∷ behind) m bytes = bytes ≡ []
FrontShows content (Flush ∷ behind) m bytes = bytes ≡ []

-- WHAT AN IMAGE HOLDS: each block of the disk is the content's, or that of a write that is pending
abbrev pub ImageHolds : ℕ → List ℕ → List Request → List ℕ → Type 0
ImageHolds blocks content pending image = (b : ℕ) → b < blocks → (block_at b image ≡ block_at b content) ⊎ PendingPuts pending 0 (length pending) b (block_at b image)
