-- The places of an image that requests leave alone.
use Rattle.std.specs.Prelude.{◌≡◌, ℕ, ◌+◌, ◌*◌, ◌<◌, ◌≤◌, ◌⊎◌, List, [], ◌∷◌, length, Option, Some, None, ⊤, slice_get, slice_index}
use Rattle.vdisk_msg.specs.declared.request.Request.{Request}
use Rattle.vdisk_msg.specs.declared.request.Request.TheVariants.{Read, Write, Flush}
use Rattle.domain_script.specs.declared.event.DiskDecl.{DiskDecl}
use Rattle.disk_law.specs.Issued.{issued}
use Rattle.disk_law.specs.ListStep.{block_place}
use Rattle.world_parts.specs.lane_models.LaneState.{Shape}
use Rattle.ldom_report.specs.DiskEvents.{history}
use Rattle.ldom_entries.specs.declared.entry.Entry.{Entry}
use Rattle.world_parts.specs.world_laws.NamesNo.{IsOutOf}
use Rattle.world_parts.specs.Declared.{shapes_of}
use Rattle.script_laws.specs.Forged.{IsUnforged}

-- The byte at this place isn't in the blocks that a request writes to a disk, whose blocks begin at this one of the image.
abbrev pub IsOutside : ℕ → ℕ → Request → Type 0
IsOutside first place (Read block count) = Unit {0}
IsOutside first place (Write block count fill) = (place < block_place first block) ⊎ (block_place first block + 512 * count ≤ place)
IsOutside first place Flush = Unit {0}

-- it is outside of each of them
abbrev pub IsOutsideAll : ℕ → ℕ → List Request → Type 0
IsOutsideAll first place [] = Unit {0}
IsOutsideAll first place (request ∷ requests) = IsOutside first place request × IsOutsideAll first place requests

-- Each declared disk leaves it alone: it lies outside of the disk's region, or nobody forged the disk and it is outside of
-- each request of the disk that a journal accepted.
abbrev pub IsOutsideDisks : List DiskDecl → List Entry → ℕ → Type 0
IsOutsideDisks disks journal place =
    (x : ℕ) (shape : Shape) → slice_get (shapes_of 0 disks) x ≡ Some shape
    → IsOutOf place shape ⊎ (IsUnforged x journal × IsOutsideAll shape.first place (issued (history x journal)))

-- the image tells as many bytes as it began with, and at these places they are those
pub record KeepsOthers (IsLeft : ℕ → Type 0) (first : List ℕ) (told : Option (List ℕ)) : Type 0 where
  pub content : List ℕ
  pub told_is : told ≡ Some content
  pub long : length content ≡ length first
  pub same : (place : ℕ) → IsLeft place → slice_index content place ≡ slice_index first place

-- the same of the bytes that an image was attached with, where they are told
abbrev pub KeepsTold : Option (List ℕ) → (ℕ → Type 0) → Option (List ℕ) → Type 0
KeepsTold None IsLeft told = ⊤
KeepsTold (Some first) IsLeft told = KeepsOthers IsLeft first told
