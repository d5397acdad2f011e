-- The bytes of cookies, and what a copy moves of them.
use Rattle.std.specs.Prelude.{ℕ, ◌+◌, ◌-◌, ◌*◌, min, List, [], ◌∷◌, ◌++◌, length, map, set, slice_index, Option, Result, Ok, Err}
use Rattle.std.specs.List.{range_with_len}
use Rattle.vio_bytes.specs.Range.{range_at}
use Rattle.map_table.specs.Table.{look_at}
use Rattle.map_table.specs.declared.cookie.Cookie.{Cookie}
use Rattle.map_table.specs.declared.table.Entry.{Entry}
use Rattle.map_table.specs.declared.table.Spot.{Spot}
use Rattle.map_table.specs.declared.table.LookFault.{LookFault}

-- the addresses of cookies' bytes, those of one cookie after those of the one before: whole numbers, which don't wrap
unfoldable pub spots : List Cookie → List ℕ
spots [] = []
spots (cookie ∷ cookies) = range_with_len cookie.address cookie.size ++ spots cookies

-- the place in memory of what was found at an address
abbrev pub place_found : Result Spot LookFault → ℕ
place_found (Ok spot) = 8192 * spot.page + spot.offset
place_found (Err fault) = 0

-- the place in memory of an address: 0 where nothing is granted, which no copy moves
abbrev pub place_of : List (Option Entry) → ℕ → ℕ
place_of table address = place_found (look_at table address)

-- the byte at an address
abbrev pub byte_of : List (Option Entry) → List ℕ → ℕ → ℕ
byte_of table memory address = slice_index memory (place_of table address)

-- the bytes of cookies, over a table and a memory
abbrev pub bytes_of : List (Option Entry) → List ℕ → List Cookie → List ℕ
bytes_of table memory cookies = map (byte_of table memory) (spots cookies)

-- the n bytes of cookies from the offset on
abbrev pub moved_in : List (Option Entry) → List ℕ → List Cookie → ℕ → ℕ → List ℕ
moved_in table memory cookies offset n = range_at offset n (bytes_of table memory cookies)

-- the addresses of those bytes
abbrev pub moved_spots : List Cookie → ℕ → ℕ → List ℕ
moved_spots cookies offset n = range_at offset n (spots cookies)

-- the addresses of a cookie that a copy moves, which passes over some bytes and has n left to move
abbrev pub part_spots : Cookie → ℕ → ℕ → List ℕ
part_spots cookie skip n = range_with_len (cookie.address + skip) (min (cookie.size - skip) n)

-- bytes written to places, one after another
abbrev pub write_spots : List ℕ → List ℕ → List ℕ → List ℕ
write_spots [] bytes memory = memory
write_spots (place ∷ places) [] memory = memory
write_spots (place ∷ places) (byte ∷ bytes) memory = write_spots places bytes (set memory place byte)

-- the memory with the bytes in the place of those of cookies from the offset on
abbrev pub moved_out : List (Option Entry) → List ℕ → List Cookie → ℕ → List ℕ → List ℕ
moved_out table memory cookies offset bytes = write_spots (map (place_of table) (moved_spots cookies offset (length bytes))) bytes memory
