-- How an end grants its own memory: each page at its own index, and its ring by a cookie a page.
use Rattle.std.specs.Prelude.{ℕ, ◌+◌, ◌*◌, zero, suc, List, [], ◌∷◌, map, Option, Some}
use Rattle.std.specs.List.{range_with_len}
use Rattle.cookie_copy.specs.Identity.{own_entry}
use Rattle.map_table.specs.Cookies.{no_cookie}
use Rattle.map_table.specs.declared.cookie.Cookie.{Cookie}
use Rattle.map_table.specs.declared.table.Entry.{Entry}

-- so many pages, each granted at its own index
abbrev pub own_table : ℕ → List (Option Entry)
own_table pages = map (λ (page : ℕ). Some (own_entry page)) (range_with_len 0 pages)

-- so many pages of a ring, from the page on, each by a cookie of its own
abbrev pub page_cookies : ℕ → ℕ → List Cookie
page_cookies page zero = []
page_cookies page (suc n) = record { address = 8192 * page; size = 8192 } ∷ page_cookies (page + 1) n

-- fourteen of them, the last ones none
abbrev pub filled : ℕ → List Cookie → List Cookie
filled zero cookies = []
filled (suc n) [] = no_cookie ∷ filled n []
filled (suc n) (cookie ∷ cookies) = cookie ∷ filled n cookies
