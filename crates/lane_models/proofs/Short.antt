-- What a handshake owes has at most 256 bytes, where its offer has at most 14 cookies and the messages that it took were decoded.
use Rattle.std.proofs.Common.{◌≡◌, ℕ, ◌*◌, ◌≤◌, List, [], ◌∷◌, length, take, drop, refl, ap, arith}
use Rattle.std.specs.Prelude.{⊤}
use Rattle.std.proofs.lemmas.List.{length-take}
use Rattle.map_table.specs.Cookies.{cookies_bytes}
use Rattle.map_table.specs.declared.cookie.Cookie.{Cookie}
use Rattle.vio_handshake.proofs.MessageWidths.{answered_long, said_long}
use Rattle.vio_handshake.specs.Attributes.{answered_attributes, said_attributes}
use Rattle.vio_handshake.specs.declared.session.Offer.{Offer}
use Rattle.vio_tag.proofs.Canonical.{length_canonical}
use Rattle.vio_tag.specs.declared.message.Message.{Message}
use Rattle.vio_tag.specs.declared.message.MsgBody.{MsgBody}
use Rattle.vio_tag.specs.declared.message.MsgBody.TheVariants.{Attr, DringData, DringReg, DringUnreg, Mcast, Plain, Rdx, Ver}
use Rattle.vio_tag.specs.Form.{HasForm, IsWellFormed}
use Rattle.vio_tag.specs.Spelling.{SpellsBody, SpellsMessage, body_bytes, canonical}
use Rattle.lane_models.specs.Standing.{IsShort}

-- what bytes decode to is short, or of no kind that a handshake owes
abbrev pub ComesShort : MsgBody → Type 0
ComesShort (Mcast set count addresses) = ⊤
ComesShort (Ver major minor class) = ⊤
ComesShort (Attr bytes) = length bytes ≤ 48
ComesShort (DringReg ident slots slot_size options count cookies) = count ≤ 14
ComesShort (DringUnreg ident) = ⊤
ComesShort Rdx = ⊤
ComesShort (DringData seq ident start end state) = ⊤
ComesShort (Plain envelope) = HasForm (Plain envelope)

taken_most : (n : ℕ) (xs : List ℕ) → length (take n xs) ≤ n
taken_most n xs = omega (arith, length-take n xs)

body_comes : (bytes : List ℕ) (body : MsgBody) → HasForm body → SpellsBody bytes body → ComesShort body
body_comes bytes (Attr attr) form spells = omega (arith, ap length spells, taken_most 48 (drop 8 bytes))
body_comes bytes (DringReg ident slots slot_size options count cookies) form spells = form.most
body_comes bytes (Plain envelope) form spells = form
body_comes bytes _ form spells = tt

pub message_comes : (bytes : List ℕ) (message : Message) → IsWellFormed message → SpellsMessage bytes message → ComesShort message.body
message_comes bytes message form spells = body_comes bytes message.body form spells.body

-- A SHORT message has 8 to 256 bytes
cookies_long : (cookies : List Cookie) → length (cookies_bytes cookies) ≡ 16 * length cookies
cookies_long [] = refl
cookies_long (cookie ∷ cookies) = omega (arith, cookies_long cookies)

taken_cookies : (n : ℕ) (cookies : List Cookie) → n ≤ 14 → length (cookies_bytes (take n cookies)) ≤ 224
taken_cookies n cookies few = omega (arith, few, length-take n cookies, cookies_long (take n cookies))

body_within : (body : MsgBody) → IsShort body → length (body_bytes body) ≤ 248
body_within body short = grind (arith, taken_cookies)

pub short_within : (message : Message) → IsShort message.body → length (canonical message) ≤ 256
short_within message short = omega (arith, length_canonical message, body_within message.body short)

pub some_bytes : (message : Message) → 1 ≤ length (canonical message)
some_bytes message = omega (arith, length_canonical message)

-- attributes have 48 bytes
pub said_short : (a : Offer) (minor : ℕ) → length (said_attributes a minor) ≤ 48
said_short a minor = omega (arith, said_long a.both_rings a minor refl)

pub answered_short : (b : Offer) (minor : ℕ) (bytes : List ℕ) → length (answered_attributes b minor bytes) ≤ 48
answered_short b minor bytes = omega (arith, answered_long b.both_rings b minor bytes refl)
