-- The registration that a client's offer makes is of the widths of its fields, and its cookies are those of its ring.
use Rattle.std.proofs.Common.{◌≡◌, ℕ, zero, suc, ◌+◌, ◌-◌, ◌*◌, ◌≤◌, Bool, true, false, List, [], ◌∷◌, length, take, drop, replicate, refl, sym, ap, ◌∙◌, subst, arith, nat_le}
use Rattle.std.specs.Prelude.{if◌then◌else◌}
use Rattle.std.specs.List.{AllByRecursion}
use Rattle.map_table.specs.Cookies.{IsCookie, no_cookie}
use Rattle.map_table.specs.declared.cookie.Cookie.{Cookie}
use Rattle.vdisk_msg.specs.Requested.{ring_pages}
use Rattle.vio_tag.proofs.Widths.{registration_has_widths}
use Rattle.vio_tag.specs.Form.{AreCookies, BodyHasWidths}
use Rattle.vio_handshake.specs.Messages.{own_ring}
use Rattle.lane_models.specs.OwnMemory.{filled, page_cookies}
use Rattle.lane_models.specs.Offering.{client_offer, own_cookies}

-- FOURTEEN COOKIES, the first of them these
pub filled_long : (n : ℕ) (cookies : List Cookie) → length (filled n cookies) ≡ n
filled_long zero cookies = refl
filled_long (suc n) [] = omega (arith, filled_long n [])
filled_long (suc n) (cookie ∷ cookies) = omega (arith, filled_long n cookies)

filled_none : (n : ℕ) → filled n [] ≡ replicate n no_cookie
filled_none zero = refl
filled_none (suc n) = ap (λ (xs : List Cookie). no_cookie ∷ xs) (filled_none n)

filled_behind : (n : ℕ) (cookies : List Cookie) → length cookies ≤ n → drop (length cookies) (filled n cookies) ≡ replicate (n - length cookies) no_cookie
filled_behind n [] few =
    let all : n ≡ n - 0 = omega arith in filled_none n ∙ ap (λ (k : ℕ). replicate k no_cookie) all
filled_behind zero (cookie ∷ cookies) few = absurd (omega (arith, few))
filled_behind (suc n) (cookie ∷ cookies) few =
    let less : n - length cookies ≡ suc n - suc (length cookies) = omega arith in
    filled_behind n cookies (omega (arith, few)) ∙ ap (λ (k : ℕ). replicate k no_cookie) less

pub filled_front : (n : ℕ) (cookies : List Cookie) → length cookies ≤ n → take (length cookies) (filled n cookies) ≡ cookies
filled_front n [] few = refl
filled_front zero (cookie ∷ cookies) few = absurd (omega (arith, few))
filled_front (suc n) (cookie ∷ cookies) few = ap (λ (xs : List Cookie). cookie ∷ xs) (filled_front n cookies (omega (arith, few)))

-- THE COOKIES of a ring
pages_long : (page n : ℕ) → length (page_cookies page n) ≡ n
pages_long page zero = refl
pages_long page (suc n) = omega (arith, pages_long (page + 1) n)

pages_are : (page n : ℕ) → page + n ≤ 1000000 → AllByRecursion IsCookie (page_cookies page n)
pages_are page zero few = tt
pages_are page (suc n) few = (record { address = omega (arith, few); size = omega arith }, pages_are (page + 1) n (omega (arith, few)))

few_if : (b : Bool) (slots : ℕ) → slots ≤ 256 → length (if b then page_cookies 0 (ring_pages slots) else record { address = 0; size = 128 * slots } ∷ []) ≤ 4
few_if true slots few = omega (arith, pages_long 0 (ring_pages slots), few)
few_if false slots few = omega arith

are_if : (b : Bool) (slots : ℕ) → slots ≤ 256 → AllByRecursion IsCookie (if b then page_cookies 0 (ring_pages slots) else record { address = 0; size = 128 * slots } ∷ [])
are_if true slots few = pages_are 0 (ring_pages slots) (omega (arith, few))
are_if false slots few = (record { address = omega arith; size = omega (arith, few) }, tt)

pub four_cookies : (slots : ℕ) → slots ≤ 256 → length (own_cookies slots) ≤ 4
four_cookies slots few = few_if (nat_le 64 slots) slots few

pub few_cookies : (slots : ℕ) → slots ≤ 256 → length (own_cookies slots) ≤ 14
few_cookies slots few = omega (arith, four_cookies slots few)

-- THE REGISTRATION
pub offered_form : (blocks slots : ℕ) → slots ≤ 256 → AreCookies (client_offer blocks slots).count (client_offer blocks slots).cookies
offered_form blocks slots few = record { most = few_cookies slots few; none = filled_behind 14 (own_cookies slots) (few_cookies slots few) }

pub offered_widths : (blocks slots : ℕ) → slots ≤ 256 → BodyHasWidths (own_ring (client_offer blocks slots))
offered_widths blocks slots few =
    registration_has_widths 0 slots 128 1 (length (own_cookies slots)) (filled 14 (own_cookies slots)) (offered_form blocks slots few)
    (omega arith) (omega (arith, few)) (omega arith) (omega arith) (filled_long 14 (own_cookies slots))
    (subst (AllByRecursion IsCookie) (sym (filled_front 14 (own_cookies slots) (few_cookies slots few))) (are_if (nat_le 64 slots) slots few))

-- all its fourteen cookies are of their widths
pub cookies_are : (blocks slots : ℕ) → slots ≤ 256 → AllByRecursion IsCookie (client_offer blocks slots).cookies
cookies_are blocks slots few = (offered_widths blocks slots few).5
