-- HOW NEAR an image is to a disk's content. The content has the writes that are done; of the pending requests the server finished the first
-- k in its session and stored the first u blocks of the write after them, and the first m were published in an earlier session.
use Rattle.std.specs.Prelude.{◌≡◌, ℕ, ◌+◌, ◌<◌, ◌≤◌, ◌⊎◌, List, take, Option, Some, None, slice_get}
use Rattle.vdisk_msg.specs.declared.request.Request.{Request}
use Rattle.vdisk_msg.specs.declared.request.Request.TheVariants.{Read, Write, Flush}
use Rattle.lane_laws.specs.Blocks.{WritesBlock, after_requests, block_at}

-- a pending write at a place from `since` on and below m puts these bytes into the block
pub record PendingPuts (pending : List Request) (since m b : ℕ) (bytes : List ℕ) : Type 0 where
  pub place : ℕ
  pub request : Request
  pub from : since ≤ place
  pub below : place < m
  pub there : slice_get pending place ≡ Some request
  pub puts : WritesBlock request b bytes

-- The bytes of a block are those after the first n pending requests, or those of a later write that was disturbed.
abbrev pub Shows : List ℕ → List Request → ℕ → ℕ → ℕ → List ℕ → Type 0
Shows content pending n m b bytes = (bytes ≡ block_at b (after_requests content (take n pending))) ⊎ PendingPuts pending n m b bytes

-- the block is one of the first u of the write
abbrev pub IsAmong : Option Request → ℕ → ℕ → Type 0
IsAmong (Some (Write block count fill)) u b = (block ≤ b) × (b < block + u)
IsAmong (Some (Read block count)) u b = ⊥
IsAmong (Some Flush) u b = ⊥
IsAmong None u b = ⊥

-- the image has the bytes of what the request writes
abbrev pub PutsIn : Option Request → ℕ → List ℕ → Type 0
PutsIn (Some request) b bytes = WritesBlock request b bytes
PutsIn None b bytes = ⊥

-- A block that was stored has the write's bytes; each other block of the disk shows the content after the first k, or a later write that was
-- published in an earlier session.
pub record NearContent (blocks : ℕ) (content : List ℕ) (pending : List Request) (k m u : ℕ) (image : List ℕ) : Type 0 where
  pub stored : (b : ℕ) → IsAmong (slice_get pending k) u b → PutsIn (slice_get pending k) b (block_at b image)
  pub others : (b : ℕ) → b < blocks → (IsAmong (slice_get pending k) u b → ⊥) → Shows content pending k m b (block_at b image)
