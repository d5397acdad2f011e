-- Copies that stay within one page.
use Rattle.std.specs.Prelude.{◌≡◌, ℕ, ◌+◌, ◌%◌, ◌^◌, ◌<◌, ◌≤◌, List, Bool, true, Option, None}
use Rattle.std.specs.List.{range_with_len}
use Rattle.map_table.specs.declared.cookie.Cookie.{Cookie}
use Rattle.map_table.specs.declared.table.Entry.{Entry}
use Rattle.cookie_copy.specs.declared.fault.Access.{Access}
use Rattle.cookie_copy.specs.Faults.{first_copy_fault, is_mapped}
use Rattle.cookie_copy.specs.Moved.{moved_spots}

-- a copy of n bytes from the offset on has no fault, and moves those from an address on, all of one page
pub record MovesInPage (up : Bool) (access : Access) (table : List (Option Entry)) (cookies : List Cookie) (offset n address : ℕ) : Type 0 where
  pub fault : first_copy_fault up access table cookies offset n ≡ None
  pub spots : moved_spots cookies offset n ≡ range_with_len address n
  pub some : address < 2 ^ 60
  pub below : address + n ≤ 2 ^ 60
  pub page : address % 8192 + n ≤ 8192
  pub mapped : is_mapped table address ≡ true
