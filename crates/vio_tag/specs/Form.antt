-- Which messages are well formed.
use Rattle.std.specs.Prelude.{◌≡◌, ℕ, ◌-◌, ◌^◌, ◌<◌, ◌≤◌, ◌⊎◌, List, length, drop, replicate, ⊤}
use Rattle.std.specs.List.{AllByRecursion}
use Rattle.map_table.specs.Cookies.{IsCookie, no_cookie}
use Rattle.map_table.specs.declared.cookie.Cookie.{Cookie}
use Rattle.vio_tag.specs.declared.message.Message.{Message}
use Rattle.vio_tag.specs.declared.message.MsgBody.{MsgBody}
use Rattle.vio_tag.specs.declared.message.MsgBody.TheVariants.{Ver, Attr, DringReg, DringUnreg, Rdx, DringData, Mcast, Plain}

-- at most 14 cookies, and none after them
pub record AreCookies (count : ℕ) (cookies : List Cookie) : Type 0 where
  pub most : count ≤ 14
  pub none : drop count cookies ≡ replicate (14 - count) no_cookie

-- a registration's cookies are so, and a plain message is PKT_DATA or DESC_DATA
abbrev pub HasForm : MsgBody → Type 0
HasForm (Ver major minor class) = ⊤
HasForm (Attr bytes) = ⊤
HasForm (DringReg ident slots slot_size options count cookies) = AreCookies count cookies
HasForm (DringUnreg ident) = ⊤
HasForm Rdx = ⊤
HasForm (DringData seq ident start end state) = ⊤
HasForm (Mcast set count addresses) = ⊤
HasForm (Plain envelope) = (envelope ≡ 0x0040) ⊎ (envelope ≡ 0x0041)

abbrev pub IsWellFormed : Message → Type 0
IsWellFormed message = HasForm message.body

-- the numbers of the body are of their fields' widths, and its lists of their lengths
abbrev pub BodyHasWidths : MsgBody → Type 0
BodyHasWidths (Ver major minor class) = (major < 2 ^ 16) × (minor < 2 ^ 16) × (class < 2 ^ 8)
BodyHasWidths (Attr bytes) = length bytes ≡ 48
BodyHasWidths (DringReg ident slots slot_size options count cookies) =
    (ident < 2 ^ 64) × (slots < 2 ^ 32) × (slot_size < 2 ^ 32) × (options < 2 ^ 16) × (length cookies ≡ 14)
    × AllByRecursion IsCookie cookies
BodyHasWidths (DringUnreg ident) = ident < 2 ^ 64
BodyHasWidths Rdx = ⊤
BodyHasWidths (DringData seq ident start end state) =
    (seq < 2 ^ 64) × (ident < 2 ^ 64) × (start < 2 ^ 32) × (end < 2 ^ 32) × (state < 2 ^ 8)
BodyHasWidths (Mcast set count addresses) =
    (set < 2 ^ 8) × (count < 2 ^ 8) × (length addresses ≡ 7) × AllByRecursion (λ address. length address ≡ 6) addresses
BodyHasWidths (Plain envelope) = ⊤

-- each number of the message is of its field's width, and each list of its length, as in a program
abbrev pub HasWidths : Message → Type 0
HasWidths message = (message.sid < 2 ^ 32) × BodyHasWidths message.body
