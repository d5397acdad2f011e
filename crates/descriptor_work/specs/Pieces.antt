-- The pieces of a descriptor, by the work alone.
use Rattle.std.specs.Prelude.{◌≡◌, ℕ, List, Option}
use Rattle.lane_models.specs.Served.{StoreDoesIn}
use Rattle.lane_models.specs.ServerState.{Progress, ServerState, Work, fresh_server}
use Rattle.cookie_copy.specs.Reach.{Reach}
use Rattle.lane_models.specs.ServerWork.{MovesIn, StoresIn}
use Rattle.descriptor_work.specs.declared.answers.StoreCall.{StoreCall}
use Rattle.descriptor_work.specs.declared.answers.UnitCopy.{UnitCopy}

-- a disk that begins at the block of the store
abbrev pub disk_at : ℕ → ServerState
disk_at first = fresh_server first 0 0

-- what the store gave for a call, the progress after it, and what became of its bytes
abbrev pub StoredFor : StoreCall → ℕ → Work → List ℕ → Progress → Option (List ℕ) → Option (List ℕ) → Type 0
StoredFor call first work gave next told new =
    StoresIn work.progress work call.operation call.block call.count call.failed gave next
    × StoreDoesIn work.progress (disk_at first) call.block call.failed gave told new

-- a piece on the store
pub record PieceOn (first : ℕ) (work : Work) (told : Option (List ℕ)) (call : StoreCall) (behind : Work) (new : Option (List ℕ)) : Type 0 where
  pub gave : List ℕ
  pub next : Progress
  pub stored : StoredFor call first work gave next told new
  pub is : behind ≡ record work { progress = next }

-- a piece in the client's memory
pub record PieceIn (work : Work) (reach : Reach) (copy : UnitCopy) (behind : Work) (new : List ℕ) : Type 0 where
  pub next : Progress
  pub moved : MovesIn work.progress work reach copy.unit copy.fault next new
  pub is : behind ≡ record work { progress = next }
