-- Where a unit of a descriptor lies.
use Rattle.std.specs.Prelude.{◌≡◌, ℕ, ◌+◌, ◌*◌, ◌%◌, ◌<◌, ◌≤◌}
use Rattle.vdisk_msg.specs.Check.{most_bytes}
use Rattle.vdisk_msg.specs.declared.desc.DiskDesc.{DiskDesc}

-- a unit of a descriptor that was found sound: whole blocks, within the disk, in at most five cookies
pub record IsUnit (blocks unit : ℕ) (desc : DiskDesc) : Type 0 where
  pub whole : desc.size % 512 ≡ 0
  pub most : desc.size ≤ most_bytes
  pub unit_in : 8192 * unit < desc.size
  pub within : 512 * desc.offset + desc.size ≤ 512 * blocks
  pub cookies : desc.count ≤ 5
