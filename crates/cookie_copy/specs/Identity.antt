-- Copies over the table that grants each page of a memory at the page's own index, with both rights.
use Rattle.std.specs.Prelude.{◌≡◌, ℕ, ◌<◌, ◌≤◌, List, length, map, slice_index, true, Option, Some, None}
use Rattle.map_table.specs.Table.{granted}
use Rattle.map_table.specs.declared.cookie.Cookie.{Cookie}
use Rattle.map_table.specs.declared.table.Entry.{Entry}
use Rattle.cookie_copy.specs.Moved.{moved_spots, write_spots}

-- page i is granted at index i, with both rights
abbrev pub own_entry : ℕ → Entry
own_entry page = record { page = page; rights = record { read = true; write = true } }

-- so many pages are granted so, and nothing else
pub record IsIdentity (table : List (Option Entry)) (pages : ℕ) : Type 0 where
  pub few : pages ≤ 1028
  pub each : (index : ℕ) → index < pages → granted table index ≡ Some (own_entry index)
  pub others : (index : ℕ) → pages ≤ index → granted table index ≡ None

-- what a copy in gives
abbrev pub copied_in : List ℕ → List Cookie → ℕ → ℕ → List ℕ
copied_in memory cookies offset n = map (slice_index memory) (moved_spots cookies offset n)

-- the memory after a copy out
abbrev pub copied_out : List ℕ → List Cookie → ℕ → List ℕ → List ℕ
copied_out memory cookies offset bytes = write_spots (moved_spots cookies offset (length bytes)) bytes memory
