-- The cookies of a ring's pages.
use Rattle.std.proofs.Common.{◌≡◌, ℕ, zero, suc, ◌+◌, ◌*◌, ◌<◌, ◌≤◌, Bool, true, false, [], ◌∷◌, length, replicate, refl, arith, ap, ◌∙◌, subst, sym}
use Rattle.std.proofs.lemmas.Bool.{le-leb}
use Rattle.std.specs.Prelude.{slice_set, nat_le, if◌then◌else◌}
use Rattle.map_table.specs.Cookies.{no_cookie}
use Rattle.map_table.specs.declared.cookie.Cookie.{Cookie}
use Rattle.vdisk_msg.specs.Requested.{ring_pages}
use Rattle.vio_tag.specs.Form.{AreCookies}
use Rattle.lane_models.specs.OwnMemory.{filled, page_cookies}
use Rattle.lane_models.specs.Offering.{own_cookies}

-- no pages yet, and one more
pub no_pages : replicate 14 no_cookie ≡ filled 14 (page_cookies 0 0)
no_pages = refl

pub page_more : (n : ℕ) → n < 4 → (cookie : Cookie) → cookie ≡ record { address = 8192 * n; size = 8192 }
    → slice_set (filled 14 (page_cookies 0 n)) n cookie ≡ filled 14 (page_cookies 0 (suc n))
page_more zero few cookie is = ap (λ (c : Cookie). slice_set (filled 14 (page_cookies 0 0)) 0 c) is
page_more (suc zero) few cookie is = ap (λ (c : Cookie). slice_set (filled 14 (page_cookies 0 1)) 1 c) is
page_more (suc (suc zero)) few cookie is = ap (λ (c : Cookie). slice_set (filled 14 (page_cookies 0 2)) 2 c) is
page_more (suc (suc (suc zero))) few cookie is = ap (λ (c : Cookie). slice_set (filled 14 (page_cookies 0 3)) 3 c) is
page_more (suc (suc (suc (suc n)))) few cookie is = absurd (omega arith)

-- a few cookies are cookies
pub pages_form : (n : ℕ) → n ≤ 4 → AreCookies n (filled 14 (page_cookies 0 n))
pages_form zero few = record { most = omega arith; none = refl }
pages_form (suc zero) few = record { most = omega arith; none = refl }
pages_form (suc (suc zero)) few = record { most = omega arith; none = refl }
pages_form (suc (suc (suc zero))) few = record { most = omega arith; none = refl }
pages_form (suc (suc (suc (suc zero)))) few = record { most = omega arith; none = refl }
pages_form (suc (suc (suc (suc (suc n))))) few = absurd (omega arith)

pub length-pages : (page n : ℕ) → length (page_cookies page n) ≡ n
length-pages page zero = refl
length-pages page (suc n) = ap suc (length-pages (page + 1) n)

-- the cookies of a ring of so many slots
own_in : (b : Bool) (slots : ℕ) → slots ≤ 256 → AreCookies (length (if b then page_cookies 0 (ring_pages slots) else record { address = 0; size = 128 * slots } ∷ []))
    (filled 14 (if b then page_cookies 0 (ring_pages slots) else record { address = 0; size = 128 * slots } ∷ []))
own_in true slots few =
    let pages : ring_pages slots ≤ 4 = omega (arith, few) in
    subst (λ (n : ℕ). AreCookies n (filled 14 (page_cookies 0 (ring_pages slots)))) (sym (length-pages 0 (ring_pages slots))) (pages_form (ring_pages slots) pages)
own_in false slots few = record { most = omega arith; none = refl }

pub own_form : (slots : ℕ) → slots ≤ 256 → AreCookies (length (own_cookies slots)) (filled 14 (own_cookies slots))
own_form slots few = own_in (nat_le 64 slots) slots few

pub own_pages : (slots n : ℕ) → 64 ≤ slots → n ≡ ring_pages slots → n ≡ length (own_cookies slots)
own_pages slots n large is =
    is ∙ sym (length-pages 0 (ring_pages slots))
    ∙ ap (λ (b : Bool). length (if b then page_cookies 0 (ring_pages slots) else record { address = 0; size = 128 * slots } ∷ [])) (sym (le-leb 64 slots large))
