-- What a server does for a descriptor, piece by piece.
use Rattle.std.specs.Prelude.{ℕ, zero, suc, ◌+◌, ◌/◌, ◌==◌, if◌then◌else◌, List, [], ◌∷◌, ◌++◌, Option, Some, None}
use Rattle.vdisk_msg.specs.declared.desc.DiskDesc.{DiskDesc}
use Rattle.vdisk_msg.specs.declared.desc.DescFault.{DescFault}
use Rattle.vdisk_msg.specs.declared.desc.DescFault.TheVariants.{Operation, Cookies, Size, Range}
use Rattle.vdisk_msg.specs.Check.{first_defect}

-- a unit is copied, a unit is read or written on the store (or the store is flushed), or the descriptor gets its status
pub data Piece : Type 0 where
  Moves : (unit : ℕ) → Piece
  Stores : (unit : ℕ) → Piece
  Finishes : (status : ℕ) → Piece

-- the units of 8,192 bytes of so many bytes, the last of them perhaps shorter
abbrev pub unit_count : ℕ → ℕ
unit_count size = (size + 8191) / 8192

-- a read stores and then moves each of n units from `unit` on
abbrev pub read_pieces : ℕ → ℕ → List Piece
read_pieces unit zero = []
read_pieces unit (suc n) = Stores unit ∷ Moves unit ∷ read_pieces (unit + 1) n

-- a write moves and then stores them
abbrev pub write_pieces : ℕ → ℕ → List Piece
write_pieces unit zero = []
write_pieces unit (suc n) = Moves unit ∷ Stores unit ∷ write_pieces (unit + 1) n

-- the pieces of an operation on so many units
abbrev pub operation_pieces : ℕ → ℕ → List Piece
operation_pieces operation units =
    if operation == 1 then read_pieces 0 units else if operation == 2 then write_pieces 0 units else Stores 0 ∷ []

-- the status of a descriptor that can't be run: 48 for its operation, 22 for all else
abbrev pub refusal_status : DescFault → ℕ
refusal_status Operation = 48
refusal_status Cookies = 22
refusal_status Size = 22
refusal_status Range = 22

abbrev pub checked_pieces : Option DescFault → DiskDesc → List Piece
checked_pieces None desc = operation_pieces desc.operation (unit_count desc.size) ++ Finishes 0 ∷ []
checked_pieces (Some fault) desc = Finishes (refusal_status fault) ∷ []

-- the pieces of a descriptor for a disk of so many blocks that takes these operations, where nothing fails
unfoldable pub pieces : DiskDesc → ℕ → ℕ → List Piece
pieces desc blocks mask = checked_pieces (first_defect desc blocks mask) desc
