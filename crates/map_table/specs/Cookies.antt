-- Transport cookies as bytes: each is 16 bytes, the address and then the size, 8 bytes each (`struct
-- ldc_trans_cookie` of Linux's ldc.h).
use Rattle.std.specs.Prelude.{ℕ, zero, suc, ◌+◌, ◌^◌, ◌<◌, List, [], ◌∷◌, ◌++◌}
use Rattle.std.specs.List.{flat_map}
use Rattle.byteorder.specs.Endian.{big_bytes}
use Rattle.vio_bytes.specs.Place.{number_at}
use Rattle.map_table.specs.declared.cookie.Cookie.{Cookie}

-- the cookie of no memory
abbrev pub no_cookie : Cookie
no_cookie = record { address = 0; size = 0 }

-- the cookie in the 16 bytes from place `at`
abbrev pub cookie_at : ℕ → List ℕ → Cookie
cookie_at at bytes = record { address = number_at 8 at bytes; size = number_at 8 (at + 8) bytes }

-- the `count` cookies that stand one after another from place `at`
abbrev pub cookies_at : ℕ → ℕ → List ℕ → List Cookie
cookies_at at zero bytes = []
cookies_at at (suc count) bytes = cookie_at at bytes ∷ cookies_at (at + 16) count bytes

-- a cookie's 16 bytes
abbrev pub cookie_bytes : Cookie → List ℕ
cookie_bytes cookie = big_bytes 8 cookie.address ++ big_bytes 8 cookie.size

-- the bytes of cookies, one after another
abbrev pub cookies_bytes : List Cookie → List ℕ
cookies_bytes cookies = flat_map cookie_bytes cookies

-- a cookie of two numbers of 8 bytes
pub record IsCookie (cookie : Cookie) : Type 0 where
  pub address : cookie.address < 2 ^ 64
  pub size : cookie.size < 2 ^ 64
