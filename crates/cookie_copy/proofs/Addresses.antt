-- What holds of all addresses of a copy.
use Rattle.std.proofs.Common.{◌≡◌, ◌≢◌, subst, ℕ, zero, suc, ◌+◌, ◌-◌, ◌/◌, ◌%◌, ◌^◌, ◌<◌, ◌≤◌, min, List, [], ◌∷◌, ◌++◌, length, drop, get_or, Bool, true, false, ◌&&◌, ◌||◌, refl, sym, ap, ◌∙◌, arith, nat_eq, nat_le, Option, Some, None, is_some, IfSome, not, if◌then◌else◌}
use Rattle.std.proofs.lemmas.List.{append-nil, drop_more, drop_all}
use Rattle.std.proofs.lemmas.List.Folds.{list_all-append}
use Rattle.std.proofs.lemmas.Bool.Decides.{nat_tests}
use Rattle.std.specs.List.{list_all, range_with_len}
use Rattle.map_table.specs.Table.{granted}
use Rattle.map_table.specs.declared.cookie.Cookie.{Cookie}
use Rattle.map_table.specs.declared.table.Entry.{Entry}
use Rattle.cookie_copy.specs.declared.fault.Access.{Access}
use Rattle.cookie_copy.specs.Faults.{entry_allows, has_page, held, is_aligned, is_allowed, is_found, is_mapped, may_move}
use Rattle.cookie_copy.specs.declared.fault.CopyFault.TheVariants.{Channel, BadAlign, Short, BadPage, NoMap, NoAccess}
use Rattle.cookie_copy.specs.OnePage.{MovesInPage}
use Rattle.cookie_copy.specs.declared.window.Window.{Window}
use Rattle.cookie_copy.specs.Moved.{moved_spots}
use Rattle.cookie_copy.proofs.Walking.{moved_cons, moved_nothing, range-add}

and_assoc : (a b c : Bool) → ((a && b) && c) ≡ (a && (b && c))
and_assoc true b c = refl
and_assoc false b c = refl

pub and_true : (a : Bool) → (a && true) ≡ a
and_true true = refl
and_true false = refl

and_same : (a : Bool) → (a && a) ≡ a
and_same true = refl
and_same false = refl

-- what is asked of the addresses of a cookie and of those after it
pub asked_cons : (test : ℕ → Bool) (cookie : Cookie) (cookies : List Cookie) (skip n : ℕ)
    → list_all test (moved_spots (cookie ∷ cookies) skip n)
    ≡ (list_all test (range_with_len (cookie.address + skip) (min (cookie.size - skip) n)) && list_all test (moved_spots cookies (skip - cookie.size) (n - (cookie.size - skip))))
asked_cons test cookie cookies skip n =
    ap (list_all test) (moved_cons cookie cookies skip n)
    ∙ list_all-append test (range_with_len (cookie.address + skip) (min (cookie.size - skip) n)) (moved_spots cookies (skip - cookie.size) (n - (cookie.size - skip)))

pub asked_nothing : (test : ℕ → Bool) (skip n : ℕ) → list_all test (moved_spots [] skip n) ≡ true
asked_nothing test skip n = ap (list_all test) (moved_nothing skip n)

-- the cookie at an index and those after it
pub asked_at : (test : ℕ → Bool) (cookies : List Cookie) (i : ℕ) (d : Cookie) (skip n : ℕ) → i < length cookies
    → list_all test (moved_spots (drop i cookies) skip n)
    ≡ (list_all test (range_with_len ((get_or cookies i d).address + skip) (min ((get_or cookies i d).size - skip) n))
    && list_all test (moved_spots (drop (i + 1) cookies) (skip - (get_or cookies i d).size) (n - ((get_or cookies i d).size - skip))))
asked_at test cookies i d skip n below =
    ap (λ (cs : List Cookie). list_all test (moved_spots cs skip n)) (drop_more cookies i d below)
    ∙ asked_cons test (get_or cookies i d) (drop (i + 1) cookies) skip n

pub asked_end : (test : ℕ → Bool) (cookies : List Cookie) (i skip n : ℕ) → length cookies ≤ i
    → list_all test (moved_spots (drop i cookies) skip n) ≡ true
asked_end test cookies i skip n past =
    ap (λ (cs : List Cookie). list_all test (moved_spots cs skip n)) (drop_all i cookies past) ∙ asked_nothing test skip n

-- the addresses of a range have the page size code 0 where it ends in time
pub paged_range : (a n : ℕ) → list_all has_page (range_with_len a n) ≡ (nat_eq n 0 || nat_le (a + n) (2 ^ 60))
paged_range a zero = refl
paged_range a (suc zero) = grind (arith, nat_tests)
paged_range a (suc (suc n)) = let rest = paged_range (a + 1) (suc n) in grind (arith, nat_tests)

-- what is asked of each address of a page is asked of one
page_asked : (test : ℕ → Bool) → ((a b : ℕ) → a / 8192 ≡ b / 8192 → test a ≡ test b)
    → (a n : ℕ) → a % 8192 + suc n ≤ 8192 → list_all test (range_with_len a (suc n)) ≡ test a
page_asked test by_page a zero within = and_true (test a)
page_asked test by_page a (suc n) within =
    let same : (a + 1) / 8192 ≡ a / 8192 = omega arith in
    ap (λ (b : Bool). test a && b) (page_asked test by_page (a + 1) n (omega arith) ∙ by_page (a + 1) a same) ∙ and_same (test a)

-- and so is what is asked of a range within a page
pub asked_one : (test : ℕ → Bool) → ((a b : ℕ) → a / 8192 ≡ b / 8192 → test a ≡ test b)
    → (a n : ℕ) → n ≢ 0 → n ≤ 8192 - a % 8192 → test a ≡ list_all test (range_with_len a n)
asked_one test by_page a n some within =
    let more : suc (n - 1) ≡ n = omega arith in
    sym (page_asked test by_page a (n - 1) (omega arith)) ∙ ap (λ (m : ℕ). list_all test (range_with_len a m)) more

-- the first n addresses of a range, which lie in one page, and those after them
pub asked_page : (test : ℕ → Bool) → ((a b : ℕ) → a / 8192 ≡ b / 8192 → test a ≡ test b)
    → (address done len k : ℕ) → done < len → k ≡ min (8192 - (address + done) % 8192) (len - done)
    → list_all test (range_with_len (address + done) (len - done)) ≡ (test (address + done) && list_all test (range_with_len (address + (done + k)) (len - (done + k))))
asked_page test by_page address done len k below is =
    let a : ℕ = address + done in
    let some : k ≡ suc (k - 1) = omega arith in
    let split : len - done ≡ k + (len - (done + k)) = omega arith in
    let place : a + k ≡ address + (done + k) = omega arith in
    let front : list_all test (range_with_len a k) ≡ test a =
    ap (λ (m : ℕ). list_all test (range_with_len a m)) some ∙ page_asked test by_page a (k - 1) (omega arith) in
    ap (λ (m : ℕ). list_all test (range_with_len a m)) split
    ∙ ap (list_all test) (range-add a k (len - (done + k)))
    ∙ list_all-append test (range_with_len a k) (range_with_len (a + k) (len - (done + k)))
    ∙ ap (λ (b : Bool). b && list_all test (range_with_len (a + k) (len - (done + k)))) front
    ∙ ap (λ (p : ℕ). test a && list_all test (range_with_len p (len - (done + k)))) place

pub mapped_by_page : (table : List (Option Entry)) (a b : ℕ) → a / 8192 ≡ b / 8192 → is_mapped table a ≡ is_mapped table b
mapped_by_page table a b same = ap (λ (i : ℕ). is_some (granted table i)) same

pub allowed_by_page : (access : Access) (table : List (Option Entry)) (a b : ℕ) → a / 8192 ≡ b / 8192 → is_allowed access table a ≡ is_allowed access table b
allowed_by_page access table a b same = ap (λ (i : ℕ). entry_allows access (granted table i)) same

pub paged_by_page : (a b : ℕ) → a / 8192 ≡ b / 8192 → has_page a ≡ has_page b
paged_by_page a b same = grind (arith, nat_tests)

pub found_by_page : (table : List (Option Entry)) (a b : ℕ) → a / 8192 ≡ b / 8192 → is_found table a ≡ is_found table b
found_by_page table a b same =
    ap (λ (p : Bool). p && is_mapped table a) (paged_by_page a b same) ∙ ap (λ (m : Bool). has_page b && m) (mapped_by_page table a b same)

pub movable_by_page : (access : Access) (table : List (Option Entry)) (a b : ℕ) → a / 8192 ≡ b / 8192 → may_move access table a ≡ may_move access table b
movable_by_page access table a b same =
    ap (λ (p : Bool). p && is_allowed access table a) (paged_by_page a b same) ∙ ap (λ (m : Bool). has_page b && m) (allowed_by_page access table a b same)

-- one step of asking: what was found so far, and what is left
pub asked_step : (old new found all here rest left : Bool) → left ≡ (here && rest) → new ≡ (old && found) → found ≡ here
    → (old && left) ≡ all → (new && rest) ≡ all
asked_step old new found all here rest left split is found_is before =
    ap (λ (b : Bool). b && rest) (is ∙ ap (λ (b : Bool). old && b) found_is) ∙ and_assoc old here rest ∙ ap (λ (b : Bool). old && b) (sym split) ∙ before

pub and_left : (a b : Bool) → (a && b) ≡ true → a ≡ true
and_left true b is = refl
and_left false b is = is

pub and_right : (a b : Bool) → (a && b) ≡ true → b ≡ true
and_right true b is = is
and_right false b is = absurd (cc is)

-- asking one cookie more
pub asked_on : (test : ℕ → Bool) (cookies : List Cookie) (i : ℕ) (d : Cookie) (window next : Window) (old new found all : Bool) → i < length cookies
    → next ≡ record { skip = window.skip - (get_or cookies i d).size; len = window.len - ((get_or cookies i d).size - window.skip) }
    → new ≡ (old && found)
    → found ≡ list_all test (range_with_len ((get_or cookies i d).address + window.skip) (min ((get_or cookies i d).size - window.skip) window.len))
    → (old && list_all test (moved_spots (drop i cookies) window.skip window.len)) ≡ all
    → (new && list_all test (moved_spots (drop (i + 1) cookies) next.skip next.len)) ≡ all
asked_on test cookies i d window next old new found all below next_is is found_is before =
    let size : ℕ = (get_or cookies i d).size in
    let here : Bool = list_all test (range_with_len ((get_or cookies i d).address + window.skip) (min (size - window.skip) window.len)) in
    let rest : Bool = list_all test (moved_spots (drop (i + 1) cookies) (window.skip - size) (window.len - (size - window.skip))) in
    subst (λ (w : Window). (new && list_all test (moved_spots (drop (i + 1) cookies) w.skip w.len)) ≡ all) (sym next_is)
    (asked_step old new found all here rest (list_all test (moved_spots (drop i cookies) window.skip window.len)) (asked_at test cookies i d window.skip window.len below) is found_is before)

-- whether the part of a cookie has pages, where it ends in time or late
pub part_paged : (a skip part : ℕ) → part ≢ 0 → nat_le (a + (skip + part)) (2 ^ 60) ≡ list_all has_page (range_with_len (a + skip) part)
part_paged a skip part some = let whole = paged_range (a + skip) part in grind (arith, nat_tests)

-- a part of no byte has nothing to ask
pub asked_missed : (test : ℕ → Bool) (old : Bool) (a k : ℕ) → k ≡ 0 → old ≡ (old && list_all test (range_with_len a k))
asked_missed test old a k none = sym (and_true old) ∙ ap (λ (n : ℕ). old && list_all test (range_with_len a n)) (sym none)

-- no byte is left to move
pub moved_none : (cookies : List Cookie) (skip n : ℕ) → n ≡ 0 → moved_spots cookies skip n ≡ []
moved_none cookies skip n none = ap (λ (k : ℕ). moved_spots cookies skip k) none

and_false : (a : Bool) → (a && false) ≡ false
and_false true = refl
and_false false = refl

unpaged_more : (paged other test all rest : Bool) → test ≡ (paged && other) → (paged && all) ≡ false → (all ≡ false → rest ≡ false) → (test && rest) ≡ false
unpaged_more true other test all rest is none more = ap (λ (b : Bool). test && b) (more none) ∙ and_false test
unpaged_more false other test all rest is none more = ap (λ (b : Bool). b && rest) is

-- what only addresses with a page pass, not all pass where one has none
pub unpaged : (test other : ℕ → Bool) → ((a : ℕ) → test a ≡ (has_page a && other a)) → (xs : List ℕ) → list_all has_page xs ≡ false → list_all test xs ≡ false
unpaged test other is [] none = absurd (cc none)
unpaged test other is (x ∷ xs) none = unpaged_more (has_page x) (other x) (test x) (list_all has_page xs) (list_all test xs) (is x) none (unpaged test other is xs)

paged_more : (paged other test all rest others : Bool) → test ≡ (paged && other) → (paged && all) ≡ true → (all ≡ true → rest ≡ others) → (test && rest) ≡ (other && others)
paged_more true other test all rest others is passed more = ap (λ (b : Bool). b && rest) is ∙ ap (λ (b : Bool). other && b) (more passed)
paged_more false other test all rest others is passed more = absurd (cc passed)

-- where all have a page, that question drops out
pub all_paged : (test other : ℕ → Bool) → ((a : ℕ) → test a ≡ (has_page a && other a)) → (xs : List ℕ) → list_all has_page xs ≡ true → list_all test xs ≡ list_all other xs
all_paged test other is [] passed = refl
all_paged test other is (x ∷ xs) passed =
    paged_more (has_page x) (other x) (test x) (list_all has_page xs) (list_all test xs) (list_all other xs) (is x) passed (all_paged test other is xs)

-- how many bytes are held by the cookie at an index and those after it
pub held_at : (cookies : List Cookie) (i : ℕ) (d : Cookie) → i < length cookies → held (drop i cookies) ≡ (get_or cookies i d).size + held (drop (i + 1) cookies)
held_at cookies i d below = ap held (drop_more cookies i d below)

-- what is left after a cookie, counted as one number
pub left_on : (cookies : List Cookie) (i : ℕ) (d : Cookie) (window next : Window) (all : ℕ) → i < length cookies
    → next ≡ record { skip = window.skip - (get_or cookies i d).size; len = window.len - ((get_or cookies i d).size - window.skip) }
    → window.skip + window.len - held (drop i cookies) ≡ all
    → next.skip + next.len - held (drop (i + 1) cookies) ≡ all
left_on cookies i d window next all below next_is before =
    let at = held_at cookies i d below in
    let skip_is : next.skip ≡ window.skip - (get_or cookies i d).size = ap (λ (w : Window). w.skip) next_is in
    let len_is : next.len ≡ window.len - ((get_or cookies i d).size - window.skip) = ap (λ (w : Window). w.len) next_is in
    omega (arith, at, skip_is, len_is, before)

pub left_end : (cookies : List Cookie) (i left all : ℕ) → length cookies ≤ i → left - held (drop i cookies) ≡ all → left ≡ all
left_end cookies i left all past before =
    let none : held (drop i cookies) ≡ 0 = ap held (drop_all i cookies past) in omega (arith, none, before)

-- whether one cookie more is aligned
pub aligned_on : (test : Cookie → Bool) (cookies : List Cookie) (i : ℕ) (d : Cookie) (old new all : Bool) → i < length cookies
    → new ≡ (old && test (get_or cookies i d))
    → (old && list_all test (drop i cookies)) ≡ all → (new && list_all test (drop (i + 1) cookies)) ≡ all
aligned_on test cookies i d old new all below is before =
    asked_step old new (test (get_or cookies i d)) all (test (get_or cookies i d)) (list_all test (drop (i + 1) cookies)) (list_all test (drop i cookies))
    (ap (list_all test) (drop_more cookies i d below)) is refl before

pub aligned_end : (test : Cookie → Bool) (cookies : List Cookie) (i : ℕ) (found all : Bool) → length cookies ≤ i
    → (found && list_all test (drop i cookies)) ≡ all → found ≡ all
aligned_end test cookies i found all past before =
    sym (and_true found) ∙ ap (λ (b : Bool). found && b) (sym (ap (list_all test) (drop_all i cookies past))) ∙ before

-- a part that has pages ends in time
pub paged_below : (a n : ℕ) → n ≢ 0 → list_all has_page (range_with_len a n) ≡ true → a + n ≤ 2 ^ 60
paged_below a n some is = let whole = paged_range a n in grind (arith, nat_tests)

-- after the last cookie nothing is left to ask
pub asked_all : (test : ℕ → Bool) (cookies : List Cookie) (i skip n : ℕ) (found all : Bool) → length cookies ≤ i
    → (found && list_all test (moved_spots (drop i cookies) skip n)) ≡ all → found ≡ all
asked_all test cookies i skip n found all past before =
    sym (and_true found) ∙ ap (λ (b : Bool). found && b) (sym (asked_end test cookies i skip n past)) ∙ before

-- asking one page more
pub asked_page_on : (test : ℕ → Bool) → ((a b : ℕ) → a / 8192 ≡ b / 8192 → test a ≡ test b)
    → (address done len k rest : ℕ) (old new found all : Bool) → done < len → rest ≡ 8192 - (address + done) % 8192 → k ≡ min rest (len - done)
    → new ≡ (old && found) → found ≡ test (address + done)
    → (old && list_all test (range_with_len (address + done) (len - done))) ≡ all
    → (new && list_all test (range_with_len (address + (done + k)) (len - (done + k)))) ≡ all
asked_page_on test by_page address done len k rest old new found all below rest_is k_is is found_is before =
    let k_whole : k ≡ min (8192 - (address + done) % 8192) (len - done) = k_is ∙ ap (λ (m : ℕ). min m (len - done)) rest_is in
    asked_step old new found all (test (address + done)) (list_all test (range_with_len (address + (done + k)) (len - (done + k)))) (list_all test (range_with_len (address + done) (len - done)))
    (asked_page test by_page address done len k below k_whole) is found_is before

-- the addresses of a range that are left after its first k
pub range_split : (address done len k next : ℕ) → next ≡ done + k → next ≤ len
    → range_with_len (address + done) (len - done) ≡ range_with_len (address + done) k ++ range_with_len (address + next) (len - next)
range_split address done len k next next_is within =
    let split : len - done ≡ k + (len - next) = omega arith in
    let place : address + done + k ≡ address + next = omega arith in
    ap (λ (m : ℕ). range_with_len (address + done) m) split
    ∙ range-add (address + done) k (len - next)
    ∙ ap (λ (p : ℕ). range_with_len (address + done) k ++ range_with_len p (len - next)) place

-- what all addresses of a range pass, those of its front pass and those after it
pub passed_front : (test : ℕ → Bool) (address done len k next : ℕ) → next ≡ done + k → next ≤ len
    → list_all test (range_with_len (address + done) (len - done)) ≡ true → list_all test (range_with_len (address + done) k) ≡ true
passed_front test address done len k next next_is within passed =
    and_left _ (list_all test (range_with_len (address + next) (len - next)))
    (sym (list_all-append test (range_with_len (address + done) k) (range_with_len (address + next) (len - next))) ∙ sym (ap (list_all test) (range_split address done len k next next_is within)) ∙ passed)

pub passed_rest : (test : ℕ → Bool) (address done len k next : ℕ) → next ≡ done + k → next ≤ len
    → list_all test (range_with_len (address + done) (len - done)) ≡ true → list_all test (range_with_len (address + next) (len - next)) ≡ true
passed_rest test address done len k next next_is within passed =
    and_right (list_all test (range_with_len (address + done) k)) _
    (sym (list_all-append test (range_with_len (address + done) k) (range_with_len (address + next) (len - next))) ∙ sym (ap (list_all test) (range_split address done len k next next_is within)) ∙ passed)

-- the first address of a range that isn't empty
pub passed_first : (test : ℕ → Bool) (a n : ℕ) → 0 < n → list_all test (range_with_len a n) ≡ true → test a ≡ true
passed_first test a zero some passed = absurd (omega arith)
passed_first test a (suc n) some passed = and_left (test a) _ passed

-- what is moved of the cookie at an index, and of those after it
pub moved_at : (cookies : List Cookie) (i : ℕ) (d : Cookie) (window next : Window) (k : ℕ) → i < length cookies
    → next ≡ record { skip = window.skip - (get_or cookies i d).size; len = window.len - ((get_or cookies i d).size - window.skip) }
    → k ≡ min ((get_or cookies i d).size - window.skip) window.len
    → moved_spots (drop i cookies) window.skip window.len
    ≡ range_with_len ((get_or cookies i d).address + window.skip) k ++ moved_spots (drop (i + 1) cookies) next.skip next.len
moved_at cookies i d window next k below next_is k_is =
    let cookie : Cookie = get_or cookies i d in
    ap (λ (cs : List Cookie). moved_spots cs window.skip window.len) (drop_more cookies i d below)
    ∙ moved_cons cookie (drop (i + 1) cookies) window.skip window.len
    ∙ ap (λ (m : ℕ). range_with_len (cookie.address + window.skip) m ++ moved_spots (drop (i + 1) cookies) (window.skip - cookie.size) (window.len - (cookie.size - window.skip))) (sym k_is)
    ∙ ap (λ (w : Window). range_with_len (cookie.address + window.skip) k ++ moved_spots (drop (i + 1) cookies) w.skip w.len) (sym next_is)

-- what all addresses pass, those of the cookie pass and those after it
pub passed_cookie : (test : ℕ → Bool) (all here rest : List ℕ) → all ≡ here ++ rest → list_all test all ≡ true
    → (list_all test here ≡ true) × (list_all test rest ≡ true)
passed_cookie test all here rest is passed =
    let both : (list_all test here && list_all test rest) ≡ true = sym (list_all-append test here rest) ∙ sym (ap (list_all test) is) ∙ passed in
    (and_left _ _ both, and_right (list_all test here) _ both)

-- after the last cookie nothing is left
pub moved_end : (cookies : List Cookie) (i skip n : ℕ) → length cookies ≤ i → moved_spots (drop i cookies) skip n ≡ []
moved_end cookies i skip n past = ap (λ (cs : List Cookie). moved_spots cs skip n) (drop_all i cookies past) ∙ moved_nothing skip n

-- what is moved after a cookie of which no byte is moved
pub moved_past : (cookies : List Cookie) (i : ℕ) (d : Cookie) (skip n : ℕ) (all : List ℕ) → i < length cookies → (get_or cookies i d).size ≤ skip
    → moved_spots (drop i cookies) skip n ≡ all → moved_spots (drop (i + 1) cookies) (skip - (get_or cookies i d).size) n ≡ all
moved_past cookies i d skip n all below past before =
    let cookie : Cookie = get_or cookies i d in
    let none : min (cookie.size - skip) n ≡ 0 = omega (arith, past) in
    let same : n ≡ n - (cookie.size - skip) = omega (arith, past) in
    ap (λ (k : ℕ). moved_spots (drop (i + 1) cookies) (skip - cookie.size) k) same
    ∙ ap (λ (k : ℕ). range_with_len (cookie.address + skip) k ++ moved_spots (drop (i + 1) cookies) (skip - cookie.size) (n - (cookie.size - skip))) (sym none)
    ∙ sym (moved_cons cookie (drop (i + 1) cookies) skip n)
    ∙ ap (λ (cs : List Cookie). moved_spots cs skip n) (sym (drop_more cookies i d below))
    ∙ before

-- one cookie that holds all that is moved
pub moved_within : (cookies : List Cookie) (i : ℕ) (d : Cookie) (skip n address : ℕ) (all : List ℕ) → i < length cookies → n ≤ (get_or cookies i d).size - skip
    → address ≡ (get_or cookies i d).address + skip
    → moved_spots (drop i cookies) skip n ≡ all → all ≡ range_with_len address n
moved_within cookies i d skip n address all below within is before =
    let cookie : Cookie = get_or cookies i d in
    let whole : min (cookie.size - skip) n ≡ n = omega (arith, within) in
    let none : n - (cookie.size - skip) ≡ 0 = omega (arith, within) in
    sym before
    ∙ ap (λ (cs : List Cookie). moved_spots cs skip n) (drop_more cookies i d below)
    ∙ moved_cons cookie (drop (i + 1) cookies) skip n
    ∙ ap (λ (k : ℕ). range_with_len (cookie.address + skip) k ++ moved_spots (drop (i + 1) cookies) (skip - cookie.size) (n - (cookie.size - skip))) whole
    ∙ ap (λ (xs : List ℕ). range_with_len (cookie.address + skip) n ++ xs) (moved_none (drop (i + 1) cookies) (skip - cookie.size) (n - (cookie.size - skip)) none)
    ∙ append-nil (range_with_len (cookie.address + skip) n)
    ∙ ap (λ (a : ℕ). range_with_len a n) (sym is)

pub found_within : (result : Option ℕ) (cookies : List Cookie) (i : ℕ) (d : Cookie) (skip n : ℕ) (all : List ℕ) → i < length cookies
    → IfSome result (λ address. address ≡ (get_or cookies i d).address + skip)
    → IfSome result (λ address. n ≤ (get_or cookies i d).size - skip)
    → moved_spots (drop i cookies) skip n ≡ all → IfSome result (λ address. all ≡ range_with_len address n)
found_within None cookies i d skip n all below is within before = tt
found_within (Some address) cookies i d skip n all below is within before = moved_within cookies i d skip n address all below within is before

-- what is passed over of cookies and what they hold
pub skipped_on : (cookies : List Cookie) (i : ℕ) (d : Cookie) (skip offset : ℕ) → i < length cookies → (get_or cookies i d).size ≤ skip
    → skip + held cookies ≡ offset + held (drop i cookies) → skip - (get_or cookies i d).size + held cookies ≡ offset + held (drop (i + 1) cookies)
skipped_on cookies i d skip offset below past before = let at = held_at cookies i d below in omega (arith, at, past, before)

pub held_within : (result : Option ℕ) (cookies : List Cookie) (i : ℕ) (d : Cookie) (skip offset n : ℕ) → i < length cookies → skip < (get_or cookies i d).size
    → IfSome result (λ address. n ≤ (get_or cookies i d).size - skip)
    → skip + held cookies ≡ offset + held (drop i cookies) → IfSome result (λ address. offset + n ≤ held cookies)
held_within None cookies i d skip offset n below inside within before = tt
held_within (Some address) cookies i d skip offset n below inside within before = let at = held_at cookies i d below in omega (arith, at, inside, within, before)

pub allowed_some : (access : Access) (found : Option Entry) → entry_allows access found ≡ true → is_some found ≡ true
allowed_some access None is = absurd (cc is)
allowed_some access (Some entry) is = refl

none_of : (up aligned holds paged mapped allowed : Bool) → up ≡ true → aligned ≡ true → holds ≡ true → paged ≡ true → mapped ≡ true → allowed ≡ true
    → (if not up then Some Channel else if not aligned then Some BadAlign else if not holds then Some Short
    else if not paged then Some BadPage else if not mapped then Some NoMap else if not allowed then Some NoAccess else None) ≡ None
none_of true true true true true true a b c d e f = refl
none_of false aligned holds paged mapped allowed a b c d e f = absurd (cc a)
none_of true false holds paged mapped allowed a b c d e f = absurd (cc b)
none_of true true false paged mapped allowed a b c d e f = absurd (cc c)
none_of true true true false mapped allowed a b c d e f = absurd (cc d)
none_of true true true true false allowed a b c d e f = absurd (cc e)
none_of true true true true true false a b c d e f = absurd (cc f)

-- a copy within one page, of which one address was asked
pub moves_in_page : (up : Bool) (access : Access) (table : List (Option Entry)) (cookies : List Cookie) (offset n address : ℕ)
    → up ≡ true → is_aligned cookies offset n ≡ true → 0 < n → address % 8192 + n ≤ 8192 → moved_spots cookies offset n ≡ range_with_len address n
    → offset + n ≤ held cookies → may_move access table address ≡ true → MovesInPage up access table cookies offset n address
moves_in_page up access table cookies offset n address is_up aligned some page spots holds passed =
    let has : has_page address ≡ true = and_left (has_page address) (is_allowed access table address) passed in
    let allows : is_allowed access table address ≡ true = and_right (has_page address) (is_allowed access table address) passed in
    let mapped : is_mapped table address ≡ true = allowed_some access (granted table (address / 8192)) allows in
    let below : address < 2 ^ 60 = grind (arith, nat_tests) in
    let some_n : n ≢ 0 = omega (arith, some) in
    let within : n ≤ 8192 - address % 8192 = omega (arith, page) in
    let enough : nat_le (offset + n) (held cookies) ≡ true = grind (arith, nat_tests) in
    let paged_all : list_all has_page (moved_spots cookies offset n) ≡ true =
    ap (list_all has_page) spots ∙ sym (asked_one has_page paged_by_page address n some_n within) ∙ has in
    let mapped_all : list_all (is_mapped table) (moved_spots cookies offset n) ≡ true =
    ap (list_all (is_mapped table)) spots ∙ sym (asked_one (is_mapped table) (mapped_by_page table) address n some_n within) ∙ mapped in
    let allowed_all : list_all (is_allowed access table) (moved_spots cookies offset n) ≡ true =
    ap (list_all (is_allowed access table)) spots ∙ sym (asked_one (is_allowed access table) (allowed_by_page access table) address n some_n within) ∙ allows in
    record {
      fault = none_of up (is_aligned cookies offset n) (nat_le (offset + n) (held cookies)) (list_all has_page (moved_spots cookies offset n)) (list_all (is_mapped table) (moved_spots cookies offset n))
          (list_all (is_allowed access table) (moved_spots cookies offset n)) is_up aligned enough paged_all mapped_all allowed_all;
      spots = spots;
      some = below;
      below = omega (arith, below, page);
      page = page;
      mapped = mapped;
    }
