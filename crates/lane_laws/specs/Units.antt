-- A descriptor in work is what its progress says: a read, a write or a flush; and the bytes that are held of a unit are all of it.
use Rattle.std.specs.Prelude.{◌≡◌, length, Option, Some, None, ⊤}
use Rattle.vdisk_msg.specs.declared.desc.DiskDesc.{DiskDesc}
use Rattle.lane_models.specs.ServerState.{Ends, Flushes, Gathers, Gives, Progress, Reads, Work, Writes}
use Rattle.lane_models.specs.ServerWork.{desc_of, unit_length}

abbrev pub UnitIs : DiskDesc → Progress → Type 0
UnitIs desc (Reads unit) = desc.operation ≡ 1
UnitIs desc (Gives unit bytes) = (desc.operation ≡ 1) × (length bytes ≡ unit_length desc.size unit)
UnitIs desc (Gathers unit) = desc.operation ≡ 2
UnitIs desc (Writes unit bytes) = (desc.operation ≡ 2) × (length bytes ≡ unit_length desc.size unit)
UnitIs desc Flushes = desc.operation ≡ 3
UnitIs desc (Ends status) = ⊤

abbrev pub WorkIs : Option Work → Type 0
WorkIs None = ⊤
WorkIs (Some work) = UnitIs (desc_of work) work.progress
