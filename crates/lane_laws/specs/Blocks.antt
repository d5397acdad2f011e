-- The blocks of a disk, 512 bytes each, and what requests put into them.
use Rattle.std.specs.Prelude.{◌≡◌, ℕ, ◌+◌, ◌-◌, ◌*◌, ◌<◌, ◌≤◌, List, [], ◌∷◌}
use Rattle.vio_bytes.specs.Range.{range_at}
use Rattle.vdisk_msg.specs.declared.request.Request.{Request}
use Rattle.vdisk_msg.specs.declared.request.Request.TheVariants.{Read, Write, Flush}
use Rattle.vdisk_msg.specs.Requests.{after_request, written}

-- block b of a list of bytes
abbrev pub block_at : ℕ → List ℕ → List ℕ
block_at b bytes = range_at (512 * b) 512 bytes

-- the content after requests, one after another
abbrev pub after_requests : List ℕ → List Request → List ℕ
after_requests content [] = content
after_requests content (request ∷ requests) = after_requests (after_request content request) requests

-- the request writes the block
abbrev pub Reaches : Request → ℕ → Type 0
Reaches (Read block count) b = ⊥
Reaches (Write block count fill) b = (block ≤ b) × (b < block + count)
Reaches Flush b = ⊥

-- and these are the bytes that it writes there
abbrev pub WritesBlock : Request → ℕ → List ℕ → Type 0
WritesBlock (Read block count) b bytes = ⊥
WritesBlock (Write block count fill) b bytes = Reaches (Write block count fill) b × (bytes ≡ block_at (b - block) (written fill count))
WritesBlock Flush b bytes = ⊥
