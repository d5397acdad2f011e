-- Whether a copy is answered, and by which fault.
use Rattle.std.specs.Prelude.{◌≡◌, ℕ, ◌+◌, ◌*◌, ◌^◌, ◌/◌, ◌%◌, ◌≤◌, List, [], ◌∷◌, Bool, true, false, not, ◌&&◌, ◌==◌, nat_lt, nat_le, if◌then◌else◌, Option, Some, None, is_some}
use Rattle.std.specs.List.{list_all}
use Rattle.ldc_queue.specs.Wire.{Wire}
use Rattle.ldc_queue.specs.declared.end.ChannelState.{ChannelState}
use Rattle.ldc_queue.specs.declared.end.ChannelState.TheVariants.{Down, Up, Resetting}
use Rattle.map_table.specs.Table.{granted}
use Rattle.map_table.specs.declared.cookie.Cookie.{Cookie}
use Rattle.map_table.specs.declared.rights.Rights.{Rights}
use Rattle.map_table.specs.declared.table.Entry.{Entry}
use Rattle.cookie_copy.specs.declared.fault.CopyFault.{CopyFault}
use Rattle.cookie_copy.specs.declared.fault.CopyFault.TheVariants.{Channel, BadAlign, Short, BadPage, NoMap, NoAccess}
use Rattle.cookie_copy.specs.declared.fault.Access.{Access}
use Rattle.cookie_copy.specs.declared.fault.Access.TheVariants.{Read, Write}
use Rattle.cookie_copy.specs.Moved.{moved_spots}

-- each page that the table grants lies in a memory of so many bytes
pub record PagesWithin (table : List (Option Entry)) (size : ℕ) : Type 0 where
  pub within : (index : ℕ) (entry : Entry) → granted table index ≡ Some entry → 8192 * entry.page + 8192 ≤ size

abbrev pub is_up : ChannelState → Bool
is_up Up = true
is_up Down = false
is_up Resetting = false

-- a channel's two ends are configured, and neither was upset by the other since
abbrev pub both_up : Wire → Bool
both_up wire = is_up wire.end_a && is_up wire.end_b

-- a multiple of 8
abbrev pub is_even_word : ℕ → Bool
is_even_word n = n % 8 == 0

-- so are the address and the size of a cookie
abbrev pub is_aligned_cookie : Cookie → Bool
is_aligned_cookie cookie = is_even_word cookie.address && is_even_word cookie.size

-- the offset, the length, and each address and size are multiples of 8
abbrev pub is_aligned : List Cookie → ℕ → ℕ → Bool
is_aligned cookies offset n = is_even_word offset && is_even_word n && list_all is_aligned_cookie cookies

-- how many bytes cookies hold
abbrev pub held : List Cookie → ℕ
held [] = 0
held (cookie ∷ cookies) = cookie.size + held cookies

-- the page size code of an address is that of 8 KiB
abbrev pub has_page : ℕ → Bool
has_page address = nat_lt address (2 ^ 60)

-- its entry is granted
abbrev pub is_mapped : List (Option Entry) → ℕ → Bool
is_mapped table address = is_some (granted table (address / 8192))

-- copying in wants the right to read, copying out the right to write
abbrev pub allows : Access → Rights → Bool
allows Read rights = rights.read
allows Write rights = rights.write

abbrev pub entry_allows : Access → Option Entry → Bool
entry_allows access None = false
entry_allows access (Some entry) = allows access entry.rights

-- its entry has the right
abbrev pub is_allowed : Access → List (Option Entry) → ℕ → Bool
is_allowed access table address = entry_allows access (granted table (address / 8192))

-- it has a page size code of 0 and its entry is granted
abbrev pub is_found : List (Option Entry) → ℕ → Bool
is_found table address = has_page address && is_mapped table address

-- it has a page size code of 0 and its entry the right
abbrev pub may_move : Access → List (Option Entry) → ℕ → Bool
may_move access table address = has_page address && is_allowed access table address

-- each is asked of all addresses before the next
abbrev pub first_address_fault : Access → List (Option Entry) → List ℕ → Option CopyFault
first_address_fault access table addresses =
    if not (list_all has_page addresses) then Some BadPage
    else if not (list_all (is_mapped table) addresses) then Some NoMap
    else if not (list_all (is_allowed access table) addresses) then Some NoAccess
    else None

-- the first fault of a copy of n bytes from the offset on: whether both ends are up, what is aligned, what the cookies
-- hold, and then the addresses of the bytes that are moved
abbrev pub first_copy_fault : Bool → Access → List (Option Entry) → List Cookie → ℕ → ℕ → Option CopyFault
first_copy_fault up access table cookies offset n =
    if not up then Some Channel
    else if not (is_aligned cookies offset n) then Some BadAlign
    else if not (nat_le (offset + n) (held cookies)) then Some Short
    else first_address_fault access table (moved_spots cookies offset n)

-- the bytes of a copy can be moved: the cookies hold them, and each has a place
pub record CanMove (table : List (Option Entry)) (cookies : List Cookie) (offset n : ℕ) : Type 0 where
  pub holds : offset + n ≤ held cookies
  pub paged : list_all has_page (moved_spots cookies offset n) ≡ true
  pub mapped : list_all (is_mapped table) (moved_spots cookies offset n) ≡ true
