-- What a guest may ask of a disk, and the bytes that a request names.
use Rattle.std.specs.Prelude.{◌≡◌, ℕ, ◌+◌, ◌*◌, ◌%◌, ◌≤◌, List, [], ◌∷◌, map, Option, Some, None, nat_le, ◌&&◌, if◌then◌else◌, slice_index}
use Rattle.std.specs.List.{range_with_len}
use Rattle.vio_bytes.specs.Place.{put_at}
use Rattle.vdisk_msg.specs.Fills.{IsRequest}
use Rattle.vdisk_msg.specs.declared.request.Fill.{Fill}
use Rattle.vdisk_msg.specs.declared.request.Request.{Request}
use Rattle.vdisk_msg.specs.declared.request.Request.TheVariants.{Read, Write, Flush}

-- why a request isn't accepted, however few are pending
pub data Defect : Type 0 where
  BadCount : Defect
  BadRange : Defect

-- a run of blocks is refused for its count where that isn't 1 to 64, and else where it reaches past the disk's blocks
abbrev pub blocks_defect : ℕ → ℕ → ℕ → Option Defect
blocks_defect blocks block count = if nat_le 1 count && nat_le count 64 then (if nat_le (block + count) blocks then None else Some BadRange) else Some BadCount

-- the defect of a request to a disk of so many blocks; a flush has none
abbrev pub defect : ℕ → Request → Option Defect
defect blocks (Read block count) = blocks_defect blocks block count
defect blocks (Write block count fill) = blocks_defect blocks block count
defect blocks Flush = None

-- the code of what it asks for: read 1, write 2, flush 3
abbrev pub operation_of : Request → ℕ
operation_of (Read block count) = 1
operation_of (Write block count fill) = 2
operation_of Flush = 3

-- it is one of the three
abbrev pub IsOperation : ℕ → Type 0
IsOperation operation = (1 ≤ operation) × (operation ≤ 3)

-- n bytes of a word repeated, from the place `at` of the repetition on
unfoldable pub repeated : Fill → ℕ → ℕ → List ℕ
repeated fill at n = map (λ j. slice_index fill.bytes (j % fill.len)) (range_with_len at n)

-- what a write puts on the disk
abbrev pub written : Fill → ℕ → List ℕ
written fill count = repeated fill 0 (512 * count)

-- a content with a request applied to it: a write's blocks are overwritten
abbrev pub after_request : List ℕ → Request → List ℕ
after_request content (Read block count) = content
after_request content (Write block count fill) = put_at (512 * block) (written fill count) content
after_request content Flush = content

-- all of them are within a disk of so many blocks, and their fills are fills
abbrev pub AreSound : ℕ → List Request → Type 0
AreSound blocks [] = Unit {0}
AreSound blocks (request ∷ requests) = (defect blocks request ≡ None) × IsRequest request × AreSound blocks requests

-- how many bytes a request gives where it succeeds
abbrev pub given_count : Request → ℕ
given_count (Read block count) = 512 * count
given_count (Write block count fill) = 0
given_count Flush = 0
