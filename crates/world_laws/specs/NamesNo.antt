-- A place of the image that a disk leaves alone, by what happened to it.
use Rattle.std.specs.Prelude.{◌≡◌, ◌⊎◌, ℕ, ◌+◌, ◌*◌, ◌<◌, ◌≤◌, List, [], ◌∷◌, Some, slice_get, ⊤}
use Rattle.vdisk_msg.specs.declared.request.Request.{Request}
use Rattle.vdisk_msg.specs.declared.request.Request.TheVariants.{Read, Write, Flush}
use Rattle.lane_models.specs.DiskEvent.{Accepted, Asks, DiskEvent}
use Rattle.lane_models.specs.LaneState.{Shape}
use Rattle.world_laws.specs.Along.{happened}
use Rattle.world_laws.specs.Forged.{NobodyForges}
use Rattle.world_laws.specs.Settle.{SettleEntry}

-- it lies before or after the blocks that the request writes, counted from the disk's first block
abbrev pub IsApart : ℕ → ℕ → Request → Type 0
IsApart place first (Read block count) = ⊤
IsApart place first (Write block count fill) = (place < 512 * (first + block)) ⊎ (512 * (first + block + count) ≤ place)
IsApart place first Flush = ⊤

-- an event by which the disk accepted a request names it nowhere
abbrev pub NamesNot : ℕ → ℕ → DiskEvent → Type 0
NamesNot place first (Asks (Accepted id request)) = IsApart place first request
NamesNot place first _ = ⊤

-- and so no event
abbrev pub NamesNo : ℕ → ℕ → List DiskEvent → Type 0
NamesNo place first [] = ⊤
NamesNo place first (event ∷ events) = NamesNot place first event × NamesNo place first events

-- outside of the disk's region
abbrev pub IsOutOf : ℕ → Shape → Type 0
IsOutOf place shape = (place < 512 * shape.first) ⊎ (512 * (shape.first + shape.blocks) ≤ place)

-- A DISK LEAVES IT ALONE where it lies outside of the disk's region, or where nobody forged the disk and no event names it
abbrev pub LeavesAlone : ℕ → Shape → List DiskEvent → Type 0
LeavesAlone place shape events = IsOutOf place shape ⊎ (NobodyForges events × NamesNo place shape.first events)

-- and so each disk
abbrev pub AllLeaveAlone : List Shape → ℕ → List SettleEntry → Type 0
AllLeaveAlone shapes place entries = (k : ℕ) (shape : Shape) → slice_get shapes k ≡ Some shape → LeavesAlone place shape (happened k entries)
