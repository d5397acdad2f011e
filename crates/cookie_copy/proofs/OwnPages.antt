-- Copies over the table of a memory's own pages.
use Rattle.std.proofs.Common.{◌≡◌, ◌≢◌, ℕ, zero, suc, ◌+◌, ◌-◌, ◌*◌, ◌/◌, ◌%◌, ◌^◌, ◌<◌, ◌≤◌, inl, inr, min, List, [], ◌∷◌, length, map, set, take, replicate, slice_index, Bool, true, false, ◌&&◌, not, cond, nat_le, refl, sym, ap, ◌∙◌, arith, Option, Some, None, is_some, Ok}
use Rattle.std.proofs.lemmas.List.{get_or-set_other, get_or-set_same, get_or_default, same_lists}
use Rattle.std.proofs.lemmas.List.FromFn.{get_or-map-range_with_len, length-map-range_with_len, length-range_with_len}
use Rattle.std.proofs.lemmas.List.Quantifiers.{position-Some}
use Rattle.std.proofs.lemmas.Bool.{cases_lt}
use Rattle.std.proofs.lemmas.Bool.Decides.{nat_tests}
use Rattle.std.specs.List.{list_all, range_with_len}
use Rattle.std.specs.Option.{is_none}
use Rattle.vio_bytes.specs.Place.{put_at}
use Rattle.vio_bytes.specs.Range.{range_at}
use Rattle.vio_bytes.proofs.Ranges.{get_or-range_at, length-range_at}
use Rattle.map_table.specs.Table.{first_free, granted, look_at, spot_in}
use Rattle.map_table.specs.declared.cookie.Cookie.{Cookie}
use Rattle.map_table.specs.declared.table.Entry.{Entry}
use Rattle.cookie_copy.specs.declared.fault.CopyFault.{CopyFault}
use Rattle.cookie_copy.specs.declared.fault.CopyFault.TheVariants.{Channel, BadAlign, Short, BadPage, NoMap, NoAccess}
use Rattle.cookie_copy.specs.declared.fault.Access.{Access}
use Rattle.cookie_copy.specs.declared.fault.Access.TheVariants.{Read, Write}
use Rattle.cookie_copy.specs.Faults.{PagesWithin, entry_allows, first_address_fault, first_copy_fault, has_page, held, is_aligned, is_allowed, is_mapped}
use Rattle.cookie_copy.specs.Identity.{IsIdentity, copied_in, copied_out, own_entry}
use Rattle.cookie_copy.specs.Moved.{byte_of, moved_in, moved_out, moved_spots, place_found, place_of, spots, write_spots}
use Rattle.cookie_copy.proofs.Addresses.{and_left, and_right}
use Rattle.cookie_copy.proofs.Loops.{moved_map}
use Rattle.cookie_copy.proofs.Places.{look_below, write_range}
use Rattle.cookie_copy.proofs.Walking.{drop-range, length-spots, take-range}

abbrev page_or_zero : Option Entry → ℕ
page_or_zero None = 0
page_or_zero (Some entry) = entry.page

free_at : (entries index : ℕ) → granted (replicate entries None) index ≡ None
free_at zero zero = refl
free_at zero (suc index) = refl
free_at (suc entries) zero = refl
free_at (suc entries) (suc index) = free_at entries index

-- an address within the pages
own_granted : (table : List (Option Entry)) (pages a : ℕ) → IsIdentity table pages → a < 8192 * pages → granted table (a / 8192) ≡ Some (own_entry (a / 8192))
own_granted table pages a is below = is.each (a / 8192) (omega arith)

-- such an address is found where it stands, with both rights
pub own_look : (table : List (Option Entry)) (pages a : ℕ) → IsIdentity table pages → a < 8192 * pages
    → look_at table a ≡ Ok (record { page = a / 8192; offset = a % 8192; rights = record { read = true; write = true } })
own_look table pages a is below =
    let few = is.few in
    let small : a < 2 ^ 60 = omega arith in
    look_below table a small ∙ ap (spot_in a) (own_granted table pages a is below)

pub own_place : (table : List (Option Entry)) (pages a : ℕ) → IsIdentity table pages → a < 8192 * pages → place_of table a ≡ a
own_place table pages a is below =
    let few = is.few in
    let small : a < 2 ^ 60 = omega arith in
    let found : place_of table a ≡ 8192 * (a / 8192) + a % 8192 = ap place_found (look_below table a small ∙ ap (spot_in a) (own_granted table pages a is below)) in
    omega (arith, found)

pub own_mapped : (table : List (Option Entry)) (pages a : ℕ) → IsIdentity table pages → a < 8192 * pages → is_mapped table a ≡ true
own_mapped table pages a is below = ap is_some (own_granted table pages a is below)

pub own_allowed : (access : Access) (table : List (Option Entry)) (pages a : ℕ) → IsIdentity table pages → a < 8192 * pages → is_allowed access table a ≡ true
own_allowed Read table pages a is below = ap (entry_allows Read) (own_granted table pages a is below)
own_allowed Write table pages a is below = ap (entry_allows Write) (own_granted table pages a is below)

-- an address that is mapped is within the pages
mapped_below : (table : List (Option Entry)) (pages a : ℕ) → IsIdentity table pages → is_mapped table a ≡ true → a < 8192 * pages
mapped_below table pages a is mapped =
    elim (cases_lt (a / 8192) pages) [
      | inl below ↦ omega (arith, below)
      | inr past ↦ let none : false ≡ true = sym (ap is_some (is.others (a / 8192) past)) ∙ mapped in absurd (cc none)
    ]

-- the places of mapped addresses are the addresses
pub own_places : (table : List (Option Entry)) (pages : ℕ) (addresses : List ℕ) → IsIdentity table pages → list_all (is_mapped table) addresses ≡ true → map (place_of table) addresses ≡ addresses
own_places table pages [] is mapped = refl
own_places table pages (a ∷ addresses) is mapped =
    let here : a < 8192 * pages = mapped_below table pages a is (and_left _ _ mapped) in
    ap (λ (p : ℕ). p ∷ map (place_of table) addresses) (own_place table pages a is here)
    ∙ ap (λ (ps : List ℕ). a ∷ ps) (own_places table pages addresses is (and_right (is_mapped table a) _ mapped))

own_bytes : (table : List (Option Entry)) (memory : List ℕ) (pages : ℕ) (addresses : List ℕ) → IsIdentity table pages → list_all (is_mapped table) addresses ≡ true
    → map (byte_of table memory) addresses ≡ map (slice_index memory) addresses
own_bytes table memory pages [] is mapped = refl
own_bytes table memory pages (a ∷ addresses) is mapped =
    let here : a < 8192 * pages = mapped_below table pages a is (and_left _ _ mapped) in
    ap (λ (p : ℕ). slice_index memory p ∷ map (byte_of table memory) addresses) (own_place table pages a is here)
    ∙ ap (λ (bs : List ℕ). slice_index memory a ∷ bs) (own_bytes table memory pages addresses is (and_right (is_mapped table a) _ mapped))

-- where no fault was found the addresses are mapped
fault_mapped : (paged mapped allowed : Bool) → (cond (not paged) (Some BadPage) (cond (not mapped) (Some NoMap) (cond (not allowed) (Some NoAccess) None))) ≡ None → mapped ≡ true
fault_mapped true true allowed is = refl
fault_mapped true false allowed is = absurd (cc is)
fault_mapped false mapped allowed is = absurd (cc is)

past_first : (up aligned holds : Bool) (rest : Option CopyFault) → (cond (not up) (Some Channel) (cond (not aligned) (Some BadAlign) (cond (not holds) (Some Short) rest))) ≡ None → rest ≡ None
past_first true true true rest is = is
past_first true true false rest is = absurd (cc is)
past_first true false holds rest is = absurd (cc is)
past_first false aligned holds rest is = absurd (cc is)

pub no_fault_mapped : (both_up : Bool) (access : Access) (table : List (Option Entry)) (cookies : List Cookie) (offset n : ℕ) → first_copy_fault both_up access table cookies offset n ≡ None
    → list_all (is_mapped table) (moved_spots cookies offset n) ≡ true
no_fault_mapped both_up access table cookies offset n none =
    fault_mapped (list_all has_page (moved_spots cookies offset n)) (list_all (is_mapped table) (moved_spots cookies offset n)) (list_all (is_allowed access table) (moved_spots cookies offset n))
    (past_first both_up (is_aligned cookies offset n) (nat_le (offset + n) (held cookies)) (first_address_fault access table (moved_spots cookies offset n)) none)

-- a copy that is answered, of any cookies
pub own_moved_in : (both_up : Bool) (access : Access) (table : List (Option Entry)) (memory : List ℕ) (pages : ℕ) (cookies : List Cookie) (offset n : ℕ)
    → IsIdentity table pages → first_copy_fault both_up access table cookies offset n ≡ None → moved_in table memory cookies offset n ≡ copied_in memory cookies offset n
own_moved_in both_up access table memory pages cookies offset n is none =
    sym (moved_map (byte_of table memory) cookies offset n)
    ∙ own_bytes table memory pages (moved_spots cookies offset n) is (no_fault_mapped both_up access table cookies offset n none)

pub own_moved_out : (both_up : Bool) (access : Access) (table : List (Option Entry)) (memory : List ℕ) (pages : ℕ) (cookies : List Cookie) (offset : ℕ) (bytes : List ℕ)
    → IsIdentity table pages → first_copy_fault both_up access table cookies offset (length bytes) ≡ None → moved_out table memory cookies offset bytes ≡ copied_out memory cookies offset bytes
own_moved_out both_up access table memory pages cookies offset bytes is none =
    ap (λ (places : List ℕ). write_spots places bytes memory)
    (own_places table pages (moved_spots cookies offset (length bytes)) is (no_fault_mapped both_up access table cookies offset (length bytes) none))

-- cookies whose addresses follow one another
pub moved_range : (cookies : List Cookie) (a m offset n : ℕ) → spots cookies ≡ range_with_len a m → offset + n ≤ m → moved_spots cookies offset n ≡ range_with_len (a + offset) n
moved_range cookies a m offset n is within =
    let long : min (m - offset) n ≡ n = omega arith in
    ap (λ (xs : List ℕ). range_at offset n xs) is
    ∙ ap (λ (xs : List ℕ). take n xs) (drop-range offset a m)
    ∙ take-range n (a + offset) (m - offset)
    ∙ ap (λ (k : ℕ). range_with_len (a + offset) k) long

range_bytes : (memory : List ℕ) (p n : ℕ) → p + n ≤ length memory → map (slice_index memory) (range_with_len p n) ≡ range_at p n memory
range_bytes memory p n within =
    let f : ℕ → ℕ = slice_index memory in
    let long : length (map f (range_with_len p n)) ≡ n = length-map-range_with_len f p n in
    same_lists (map f (range_with_len p n)) (range_at p n memory) (long ∙ sym (length-range_at p n memory within))
    (λ k d below.
    let k_in : k < n = omega (arith, long) in
    let same : p + k ≡ p + k = refl in
    get_or-map-range_with_len f p n k (p + k) d k_in same ∙ get_or_default memory (p + k) 0 d (omega arith) ∙ sym (get_or-range_at p n k d memory k_in))

-- a copy in is a slice of the memory
pub copied_in_range : (memory : List ℕ) (cookies : List Cookie) (a m offset n : ℕ) → spots cookies ≡ range_with_len a m → offset + n ≤ m → a + m ≤ length memory
    → copied_in memory cookies offset n ≡ range_at (a + offset) n memory
copied_in_range memory cookies a m offset n is within inside =
    ap (map (slice_index memory)) (moved_range cookies a m offset n is within) ∙ range_bytes memory (a + offset) n (omega arith)

-- a copy out writes to a slice of the memory
pub copied_out_range : (memory : List ℕ) (cookies : List Cookie) (a m offset : ℕ) (bytes : List ℕ) → spots cookies ≡ range_with_len a m → offset + length bytes ≤ m → a + m ≤ length memory
    → copied_out memory cookies offset bytes ≡ put_at (a + offset) bytes memory
copied_out_range memory cookies a m offset bytes is within inside =
    let same : length bytes ≡ length bytes = refl in
    ap (λ (places : List ℕ). write_spots places bytes memory) (moved_range cookies a m offset (length bytes) is within)
    ∙ write_range (a + offset) (length bytes) bytes memory same (omega arith)

-- what each address of a range passes
range_passes : (test : ℕ → Bool) (end a n : ℕ) → ((x : ℕ) → x < end → test x ≡ true) → a + n ≤ end → list_all test (range_with_len a n) ≡ true
range_passes test end a zero each within = refl
range_passes test end a (suc n) each within =
    ap (λ (b : Bool). b && list_all test (range_with_len (a + 1) n)) (each a (omega arith)) ∙ range_passes test end (a + 1) n each (omega arith)

no_address_fault : (paged mapped allowed : Bool) → paged ≡ true → mapped ≡ true → allowed ≡ true
    → (cond (not paged) (Some BadPage) (cond (not mapped) (Some NoMap) (cond (not allowed) (Some NoAccess) None))) ≡ None
no_address_fault paged mapped allowed is_paged is_mapped is_allowed = rw (is_paged, is_mapped, is_allowed) refl

no_first : (up aligned holds : Bool) (rest : Option CopyFault) → up ≡ true → aligned ≡ true → holds ≡ true → rest ≡ None
    → (cond (not up) (Some Channel) (cond (not aligned) (Some BadAlign) (cond (not holds) (Some Short) rest))) ≡ None
no_first up aligned holds rest is_up is_aligned is_held none = rw (is_up, is_aligned, is_held) none

below_paged : (pages x : ℕ) → pages ≤ 1028 → x < 8192 * pages → has_page x ≡ true
below_paged pages x few below = let small : x < 2 ^ 60 = omega arith in grind (arith, nat_tests)

-- an aligned copy within them has no fault
pub no_fault_range : (access : Access) (table : List (Option Entry)) (pages : ℕ) (cookies : List Cookie) (a m offset n : ℕ)
    → IsIdentity table pages → spots cookies ≡ range_with_len a m → offset + n ≤ m → a + m ≤ 8192 * pages → is_aligned cookies offset n ≡ true
    → first_copy_fault true access table cookies offset n ≡ None
no_fault_range access table pages cookies a m offset n is spots_are within inside aligned =
    let moved : moved_spots cookies offset n ≡ range_with_len (a + offset) n = moved_range cookies a m offset n spots_are within in
    let held_is : held cookies ≡ m = sym (length-spots cookies) ∙ ap length spots_are ∙ length-range_with_len a m in
    let holds : nat_le (offset + n) (held cookies) ≡ true = grind (arith, nat_tests) in
    let end : a + offset + n ≤ 8192 * pages = omega arith in
    let paged : list_all has_page (moved_spots cookies offset n) ≡ true =
    ap (list_all has_page) moved ∙ range_passes has_page (8192 * pages) (a + offset) n (λ x below. below_paged pages x is.few below) end in
    let mapped : list_all (is_mapped table) (moved_spots cookies offset n) ≡ true =
    ap (list_all (is_mapped table)) moved ∙ range_passes (is_mapped table) (8192 * pages) (a + offset) n (λ x below. own_mapped table pages x is below) end in
    let allowed : list_all (is_allowed access table) (moved_spots cookies offset n) ≡ true =
    ap (list_all (is_allowed access table)) moved ∙ range_passes (is_allowed access table) (8192 * pages) (a + offset) n (λ x below. own_allowed access table pages x is below) end in
    no_first true (is_aligned cookies offset n) (nat_le (offset + n) (held cookies)) (first_address_fault access table (moved_spots cookies offset n)) refl aligned holds
    (no_address_fault (list_all has_page (moved_spots cookies offset n)) (list_all (is_mapped table) (moved_spots cookies offset n)) (list_all (is_allowed access table) (moved_spots cookies offset n)) paged mapped allowed)

-- the pages lie in their memory
pub own_within : (table : List (Option Entry)) (pages size : ℕ) → IsIdentity table pages → 8192 * pages ≤ size → PagesWithin table size
own_within table pages size is room = record {
  within = λ index entry found.
      elim (cases_lt index pages) [
        | inl below ↦
            let same : Some (own_entry index) ≡ Some entry = sym (is.each index below) ∙ found in
            let page : index ≡ entry.page = ap page_or_zero same in omega (arith, page)
        | inr past ↦ let none : None ≡ Some entry = sym (is.others index past) ∙ found in absurd (cc none)
      ];
}

-- no page is granted in a new table
pub own_none : (entries : ℕ) → IsIdentity (replicate entries None) 0
own_none entries = record { few = omega arith; each = λ index below. absurd (omega arith); others = λ index past. free_at entries index }

-- the page that is granted next stands at its own index
pub own_grant : (table : List (Option Entry)) (pages : ℕ) → IsIdentity table pages → pages < 1028 → pages < length table → IsIdentity (set table pages (Some (own_entry pages))) (pages + 1)
own_grant table pages is few room = record {
  few = omega arith;
  each = λ index below.
      elim (cases_lt index pages) [
        | inl less ↦ let other : index ≢ pages = omega arith in get_or-set_other table pages index (Some (own_entry pages)) None other ∙ is.each index less
        | inr past ↦ let same : index ≡ pages = omega arith in
            ap (λ (i : ℕ). granted (set table pages (Some (own_entry pages))) i) same ∙ get_or-set_same table pages (Some (own_entry pages)) None room ∙ ap (λ (i : ℕ). Some (own_entry i)) (sym same)
      ];
  others = λ index past. let other : index ≢ pages = omega arith in get_or-set_other table pages index (Some (own_entry pages)) None other ∙ is.others index (omega arith);
}

-- and that is the least free one
pub own_least : (table : List (Option Entry)) (pages index : ℕ) → IsIdentity table pages → first_free table ≡ Some index → index ≡ pages
own_least table pages index is found =
    let facts = position-Some is_none table index None found in
    elim (cases_lt index pages) [
      | inl below ↦ let no : false ≡ true = sym (ap is_none (is.each index below)) ∙ facts.1 in absurd (cc no)
      | inr past ↦ elim (cases_lt pages index) [
        | inl less ↦ let no : true ≡ false = sym (ap is_none (is.others pages (omega arith))) ∙ facts.2 pages less in absurd (cc no)
        | inr not_less ↦ omega (arith, past, not_less)
      ]
    ]
