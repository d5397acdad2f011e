-- What was read: each block shows the content at its read's place, or a later write that was disturbed.
use Rattle.std.specs.Prelude.{◌≡◌, ℕ, ◌+◌, ◌*◌, ◌/◌, ◌<◌, List, length, Some, slice_get, ⊤}
use Rattle.vdisk_msg.specs.declared.request.Request.{Request}
use Rattle.vdisk_msg.specs.declared.request.Request.TheVariants.{Read}
use Rattle.vio_bytes.specs.Range.{range_at}
use Rattle.lane_models.specs.ClientState.{ClientSession}
use Rattle.lane_models.specs.ServerState.{Ends, Gives, Progress, Reads, Work}
use Rattle.lane_laws.specs.LaneView.{View, place_of}
use Rattle.lane_laws.specs.NearContent.{Shows}

-- n blocks from a block of the disk on, read for the i-th pending request, that stand from a place of the bytes on
abbrev pub BlocksShow : List ℕ → List Request → ℕ → ℕ → ℕ → ℕ → ℕ → List ℕ → Type 0
BlocksShow content pending m i block n place bytes = (b : ℕ) → b < n → Shows content pending i m (block + b) (range_at (place + 512 * b) 512 bytes)

-- the reads that the server finished in its session: all of each stands in its buffer
abbrev pub DoneShow : List ℕ → View → Type 0
DoneShow content v = (session : ClientSession) → v.session ≡ Some session → (i : ℕ) → i < v.k → (block count : ℕ) → slice_get v.pending i ≡ Some (Read block count)
    → BlocksShow content v.pending v.m i block count (place_of v.slots session i) v.buffers

-- the one in work: the units that were moved stand in its buffer, and one that was read is held
abbrev pub UnitsShow : Progress → List ℕ → List Request → ℕ → ℕ → ℕ → ℕ → ℕ → List ℕ → Type 0
UnitsShow (Reads unit) content pending m k block count place buffers = BlocksShow content pending m k block (16 * unit) place buffers
UnitsShow (Gives unit bytes) content pending m k block count place buffers =
    BlocksShow content pending m k block (16 * unit) place buffers × BlocksShow content pending m k (block + 16 * unit) (length bytes / 512) 0 bytes
UnitsShow (Ends status) content pending m k block count place buffers = BlocksShow content pending m k block count place buffers
UnitsShow _ content pending m k block count place buffers = ⊤

abbrev pub WorkShows : List ℕ → View → Type 0
WorkShows content v = (session : ClientSession) → v.session ≡ Some session → (work : Work) → v.work ≡ Some work → (block count : ℕ)
    → slice_get v.pending v.k ≡ Some (Read block count) → UnitsShow work.progress content v.pending v.m v.k block count (place_of v.slots session v.k) v.buffers
