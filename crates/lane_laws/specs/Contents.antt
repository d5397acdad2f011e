-- What the buffers hold, and the server of a descriptor in work, where nobody forges and no store failed.
use Rattle.std.specs.Prelude.{◌≡◌, ℕ, ◌+◌, ◌*◌, ◌<◌, List, length, Some, None, slice_get, ⊤}
use Rattle.vdisk_msg.specs.declared.request.Fill.{Fill}
use Rattle.vdisk_msg.specs.declared.request.Request.{Request}
use Rattle.vdisk_msg.specs.declared.request.Request.TheVariants.{Read, Write, Flush}
use Rattle.vdisk_msg.specs.Requested.{buffer_of}
use Rattle.vdisk_msg.specs.Requests.{written}
use Rattle.vio_bytes.specs.Range.{range_at}
use Rattle.lane_models.specs.ClientState.{ClientSession, slot_in}
use Rattle.lane_models.specs.LaneState.{LaneState}
use Rattle.lane_models.specs.ServerState.{Ends, Flushes, Gathers, Gives, Progress, Reads, Work, Writes}
use Rattle.lane_models.specs.ServerWork.{unit_length}
use Rattle.lane_laws.specs.LaneView.{View, place_of}

-- THE BUFFER of a write that is published holds what it writes
abbrev pub HoldsWritten : ℕ → Request → List ℕ → Type 0
HoldsWritten place (Read block count) buffers = ⊤
HoldsWritten place (Write block count fill) buffers = range_at place (512 * count) buffers ≡ written fill count
HoldsWritten place Flush buffers = ⊤

abbrev pub WritesStand : View → Type 0
WritesStand v = (session : ClientSession) → v.session ≡ Some session → (i : ℕ) → session.completed + i < session.published
    → (request : Request) → slice_get v.pending i ≡ Some request → HoldsWritten (place_of v.slots session i) request v.buffers

-- the blocks of a request that a server has stored where it is done
abbrev pub stored_count : Request → ℕ
stored_count (Read block count) = 0
stored_count (Write block count fill) = count
stored_count Flush = 0

-- A DESCRIPTOR IN WORK goes on as its request has it. So many blocks of a write are stored as come before its unit, and the bytes that are
-- held of the unit are the write's own; no copy is refused and no store fails, so that it ends with the status 0.
abbrev pub ProgressIs : Progress → ℕ → Request → Type 0
ProgressIs (Reads unit) u (Read block count) = (u ≡ 0) × (16 * unit < count)
ProgressIs (Gives unit bytes) u (Read block count) = (u ≡ 0) × (16 * unit < count) × (length bytes ≡ unit_length (512 * count) unit)
ProgressIs (Gathers unit) u (Write block count fill) = (u ≡ 16 * unit) × (16 * unit < count)
ProgressIs (Writes unit bytes) u (Write block count fill) =
    (u ≡ 16 * unit) × (16 * unit < count) × (bytes ≡ range_at (8192 * unit) (unit_length (512 * count) unit) (written fill count))
ProgressIs Flushes u Flush = u ≡ 0
ProgressIs (Ends status) u request = (u ≡ stored_count request) × (status ≡ 0)
ProgressIs _ u _ = ⊥

pub record ContentsStand (v : View) : Type 0 where
  pub writes : WritesStand v
  pub work : (work : Work) → v.work ≡ Some work → (request : Request) → slice_get v.pending v.k ≡ Some request → ProgressIs work.progress v.u request
  pub none : v.work ≡ None → v.u ≡ 0

-- the descriptor in work is that of the request after those that are finished
pub record ServesRequest (v : View) (work : Work) : Type 0 where
  pub request : Request
  pub next : slice_get v.pending v.k ≡ Some request
  pub progress : ProgressIs work.progress v.u request

abbrev pub WorkHeld : View → Type 0
WorkHeld v = (work : Work) → v.work ≡ Some work → ServesRequest v work

-- in the client's memory: the buffer of each write that is published in the open session
abbrev pub WritesHeld : LaneState → Type 0
WritesHeld s = (session : ClientSession) → s.client.session ≡ Some session → (i : ℕ) → session.completed + i < session.published
    → (block count : ℕ) (fill : Fill) → slice_get s.client.pending i ≡ Some (Write block count fill)
    → buffer_of s.client.slots (slot_in s.client (session.completed + i)) (512 * count) s.memory ≡ written fill count
