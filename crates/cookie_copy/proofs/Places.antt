-- Places of the addresses of one page.
use Rattle.std.proofs.Common.{◌≡◌, ℕ, zero, suc, ◌+◌, ◌-◌, ◌*◌, ◌/◌, ◌%◌, ◌^◌, ◌<◌, ◌≤◌, List, [], ◌∷◌, ◌++◌, length, get_or, map, set, take, drop, slice_index, Bool, true, false, refl, sym, ap, ◌∙◌, arith, cond, nat_le, Option, Some, None, Err, is_some}
use Rattle.std.proofs.lemmas.List.{get_or_default, length-set, same_lists, set_split}
use Rattle.std.proofs.lemmas.List.FromFn.{get_or-map-range_with_len, length-map-range_with_len, length-range_with_len, get_or-range_with_len}
use Rattle.std.proofs.lemmas.Bool.Decides.{nat_tests}
use Rattle.std.specs.List.{range_with_len}
use Rattle.vio_bytes.specs.Place.{put_at}
use Rattle.vio_bytes.specs.Range.{range_at}
use Rattle.vio_bytes.proofs.Ranges.{get_or-range_at, length-range_at, put_at_nothing, put_at-put_at_next}
use Rattle.map_table.specs.Table.{granted, look_at, spot_in}
use Rattle.map_table.specs.declared.table.Entry.{Entry}
use Rattle.map_table.specs.declared.table.LookFault.TheVariants.{BadPage}
use Rattle.cookie_copy.specs.Faults.{PagesWithin, is_mapped}
use Rattle.cookie_copy.specs.Moved.{place_found, place_of, write_spots}

-- an address below 2^60 is looked up by its index
pub look_below : (table : List (Option Entry)) (a : ℕ) → a < 2 ^ 60 → look_at table a ≡ spot_in a (granted table (a / 8192))
look_below table a below =
    let no : nat_le (2 ^ 60) a ≡ false = grind (arith, nat_tests) in
    ap (λ (b : Bool). cond b (Err BadPage) (spot_in a (granted table (a / 8192)))) no

-- what is known of a granted address
pub record IsPlaced (table : List (Option Entry)) (a : ℕ) : Type 0 where
  pub entry : Entry
  pub granted_is : granted table (a / 8192) ≡ Some entry
  pub place_is : place_of table a ≡ 8192 * entry.page + a % 8192

some_from : (found : Option Entry) → is_some found ≡ true → (entry : Entry) × (found ≡ Some entry)
some_from None is = absurd (cc is)
some_from (Some entry) is = (entry, refl)

pub is_placed : (table : List (Option Entry)) (a : ℕ) → a < 2 ^ 60 → is_mapped table a ≡ true → IsPlaced table a
is_placed table a below mapped =
    let some = some_from (granted table (a / 8192)) mapped in
    record {
      entry = some.0;
      granted_is = some.1;
      place_is = ap place_found (look_below table a below ∙ ap (spot_in a) some.1);
    }

-- addresses of one page lie in memory as they follow one another
pub place_next : (table : List (Option Entry)) (a i : ℕ) → a + i < 2 ^ 60 → a % 8192 + i < 8192 → is_mapped table a ≡ true → place_of table (a + i) ≡ place_of table a + i
place_next table a i below within mapped =
    let p : IsPlaced table a = is_placed table a (omega arith) mapped in
    let same : (a + i) / 8192 ≡ a / 8192 = omega arith in
    let rest : (a + i) % 8192 ≡ a % 8192 + i = omega arith in
    let found : granted table ((a + i) / 8192) ≡ Some p.entry = ap (λ (k : ℕ). granted table k) same ∙ p.granted_is in
    let here : place_of table (a + i) ≡ 8192 * p.entry.page + (a + i) % 8192 = ap place_found (look_below table (a + i) below ∙ ap (spot_in (a + i)) found) in
    omega (arith, here, rest, p.place_is)

-- what is left of the page lies in the memory
pub place_within : (table : List (Option Entry)) (size a : ℕ) → PagesWithin table size → a < 2 ^ 60 → is_mapped table a ≡ true
    → place_of table a + (8192 - a % 8192) ≤ size
place_within table size a within below mapped =
    let p : IsPlaced table a = is_placed table a below mapped in
    let inside = within.within (a / 8192) p.entry p.granted_is in
    omega (arith, p.place_is, inside)

-- the bytes of addresses of one page are a range of the memory
pub page_bytes : (table : List (Option Entry)) (memory : List ℕ) (a n : ℕ) → PagesWithin table (length memory) → a + n ≤ 2 ^ 60 → a < 2 ^ 60 → a % 8192 + n ≤ 8192 → is_mapped table a ≡ true
    → range_at (place_of table a) n memory ≡ map (λ address. slice_index memory (place_of table address)) (range_with_len a n)
page_bytes table memory a n within below some page mapped =
    let p : ℕ = place_of table a in
    let f : ℕ → ℕ = λ address. get_or memory (place_of table address) 0 in
    let room : p + n ≤ length memory = let r = place_within table (length memory) a within some mapped in omega (arith, r) in
    let long : length (range_at p n memory) ≡ n = length-range_at p n memory room in
    same_lists (range_at p n memory) (map f (range_with_len a n)) (long ∙ sym (length-map-range_with_len f a n))
    (λ k d below_k.
    let k_in : k < n = omega (arith, long) in
    let next : place_of table (a + k) ≡ p + k = place_next table a k (omega arith) (omega arith) mapped in
    let same : a + k ≡ a + k = refl in
    get_or-range_at p n k d memory k_in ∙ get_or_default memory (p + k) d 0 (omega arith) ∙ ap (λ (q : ℕ). get_or memory q 0) (sym next)
    ∙ sym (get_or-map-range_with_len f a n k (a + k) d k_in same))

-- the places of addresses of one page are a range
pub page_places : (table : List (Option Entry)) (a n : ℕ) → a + n ≤ 2 ^ 60 → a % 8192 + n ≤ 8192 → is_mapped table a ≡ true
    → map (place_of table) (range_with_len a n) ≡ range_with_len (place_of table a) n
page_places table a n below page mapped =
    let p : ℕ = place_of table a in
    let f : ℕ → ℕ = λ address. place_of table address in
    let long : length (map f (range_with_len a n)) ≡ n = length-map-range_with_len f a n in
    same_lists (map f (range_with_len a n)) (range_with_len p n) (long ∙ sym (length-range_with_len p n))
    (λ k d below_k.
    let k_in : k < n = omega (arith, long) in
    let same : a + k ≡ a + k = refl in
    get_or-map-range_with_len f a n k (a + k) d k_in same ∙ place_next table a k (omega arith) (omega arith) mapped ∙ sym (get_or-range_with_len p n k d k_in))

-- bytes written to places that follow one another
pub write_range : (p n : ℕ) (bytes memory : List ℕ) → length bytes ≡ n → p + n ≤ length memory → write_spots (range_with_len p n) bytes memory ≡ put_at p bytes memory
write_range p zero [] memory long room = sym (put_at_nothing p memory)
write_range p zero (b ∷ bytes) memory long room = absurd (omega arith)
write_range p (suc n) [] memory long room = absurd (omega arith)
write_range p (suc n) (b ∷ bytes) memory long room =
    let one : set memory p b ≡ put_at p (b ∷ []) memory =
    set_split memory p b (omega arith) ∙ ap (λ (k : ℕ). take p memory ++ (b ∷ drop k memory)) (let place : suc p ≡ p + 1 = omega arith in place) in
    let next : p + 1 ≡ p + length (b ∷ []) = refl in
    write_range (p + 1) n bytes (set memory p b) (omega arith) (omega (arith, length-set memory p b))
    ∙ ap (put_at (p + 1) bytes) one
    ∙ put_at-put_at_next p (p + 1) (b ∷ []) bytes memory next (omega arith)
