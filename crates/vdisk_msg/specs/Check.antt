-- What a disk's server looks at in a descriptor, and the first thing that is wrong with it.
use Rattle.std.specs.Prelude.{ℕ, ◌+◌, ◌/◌, ◌%◌, Bool, ◌&&◌, ◌||◌, not, nat_lt, nat_le, ◌==◌, if◌then◌else◌, Option, Some, None}
use Rattle.std.specs.Int.{bit_at}
use Rattle.vdisk_msg.specs.declared.desc.DiskDesc.{DiskDesc}
use Rattle.vdisk_msg.specs.declared.desc.DescFault.{DescFault}
use Rattle.vdisk_msg.specs.declared.desc.DescFault.TheVariants.{Operation, Cookies, Size, Range}

-- the operation is below 64, and the mask has its bit
abbrev pub is_allowed : ℕ → ℕ → Bool
is_allowed operation mask = nat_lt operation 64 && bit_at mask operation == 1

-- a read or a write
abbrev pub moves_data : ℕ → Bool
moves_data operation = operation == 1 || operation == 2

-- 1 to 5 cookies
abbrev pub holds_cookies : ℕ → Bool
holds_cookies count = nat_le 1 count && nat_le count 5

-- the most bytes of one descriptor, 64 blocks
abbrev pub most_bytes : ℕ
most_bytes = 32768

-- whole blocks of 512 bytes, at least one and at most 64
abbrev pub has_size : ℕ → Bool
has_size size = nat_lt 0 size && nat_le size most_bytes && size % 512 == 0

-- the blocks end at or before the disk's end
abbrev pub is_within : ℕ → ℕ → ℕ → Bool
is_within offset count blocks = nat_le (offset + count) blocks

-- the first thing that is wrong with a descriptor, of a disk with so many blocks and these operations
abbrev pub first_defect : DiskDesc → ℕ → ℕ → Option DescFault
first_defect desc blocks mask =
    if not (is_allowed desc.operation mask) then Some Operation
    else if not (moves_data desc.operation) then None
    else if not (holds_cookies desc.count) then Some Cookies
    else if not (has_size desc.size) then Some Size
    else if not (is_within desc.offset (desc.size / 512) blocks) then Some Range
    else None
