-- The map table: pages of its domain's memory that the other domain may copy from and to, each by its index.
use Rattle.std.specs.Prelude.{ℕ, ◌+◌, ◌*◌, ◌^◌, ◌/◌, ◌%◌, ◌≤◌, List, ◌++◌, length, Bool, nat_le, if◌then◌else◌, Option, Some, None, Result, Ok, Err, replicate, slice_index_or, is_none, position}
use Rattle.std.specs.List.{position_or_len}
use Rattle.byteorder.specs.Endian.{big_bytes}
use Rattle.map_table.specs.declared.table.Entry.{Entry}
use Rattle.map_table.specs.declared.table.Spot.{Spot}
use Rattle.map_table.specs.declared.table.LookFault.{LookFault}
use Rattle.map_table.specs.declared.table.LookFault.TheVariants.{BadPage, NoMap}

-- what is granted at an index: nothing also past the table
abbrev pub granted : List (Option Entry) → ℕ → Option Entry
granted table index = slice_index_or table index None

-- the least index that is free
abbrev pub first_free : List (Option Entry) → Option ℕ
first_free table = position is_none table

-- no index below this one is free
abbrev pub TakenBelow : ℕ → List (Option Entry) → Type 0
TakenBelow index table = index ≤ position_or_len is_none table

-- what always holds of a table and the index that it begins to look from
pub record KeepsTaken (table : List (Option Entry)) (index : ℕ) : Type 0 where
  pub few : length table ≤ 1028
  pub taken : TakenBelow index table

-- what stands at an address, whose page is granted there
abbrev pub spot_in : ℕ → Option Entry → Result Spot LookFault
spot_in address None = Err NoMap
spot_in address (Some entry) = Ok (record { page = entry.page; offset = address % 8192; rights = entry.rights })

-- An address has the page size code in bits 60 to 63, which is 0 for pages of 8 KiB, the index from bit 13 on, and below
-- it the offset in the page.
abbrev pub look_at : List (Option Entry) → ℕ → Result Spot LookFault
look_at table address = if nat_le (2 ^ 60) address then Err BadPage else spot_in address (granted table (address / 8192))

-- the bit of a right
abbrev pub right_bit : Bool → ℕ → ℕ
right_bit held bit = if held then bit else 0

-- an entry's first number: the page from bit 13 on, COPY_W and COPY_R where the rights hold, the page size code 0
abbrev pub entry_word : Entry → ℕ
entry_word entry = entry.page * 8192 + right_bit entry.rights.write 0x400 + right_bit entry.rights.read 0x200

-- an entry's 16 bytes: that number, and zeros in the place of the cookie
abbrev pub entry_bytes : Entry → List ℕ
entry_bytes entry = big_bytes 8 (entry_word entry) ++ replicate 8 0
