-- The cookies of a registration are all of their fields' widths where the first of them are: those after
-- are none.
use Rattle.std.proofs.Common.{◌≡◌, ℕ, ◌-◌, ◌^◌, ◌<◌, List, length, take, replicate, sym, subst, arith}
use Rattle.std.specs.List.{AllByRecursion}
use Rattle.map_table.specs.Cookies.{IsCookie, no_cookie}
use Rattle.map_table.specs.declared.cookie.Cookie.{Cookie}
use Rattle.map_table.proofs.Each.{each_of_both, each_replicate}
use Rattle.vio_tag.specs.declared.message.MsgBody.TheVariants.{DringReg}
use Rattle.vio_tag.specs.Form.{AreCookies, BodyHasWidths}

pub registration_has_widths : (ident slots slot_size options count : ℕ) (cookies : List Cookie) → AreCookies count cookies
    → ident < 2 ^ 64 → slots < 2 ^ 32 → slot_size < 2 ^ 32 → options < 2 ^ 16 → length cookies ≡ 14
    → AllByRecursion IsCookie (take count cookies) → BodyHasWidths (DringReg ident slots slot_size options count cookies)
registration_has_widths ident slots slot_size options count cookies form i s z o long each =
    let none : AllByRecursion IsCookie (replicate (14 - count) no_cookie) =
    each_replicate IsCookie (14 - count) no_cookie (record { address = omega arith; size = omega arith }) in
    (i, s, z, o, long, each_of_both IsCookie count cookies each (subst (λ (cs : List Cookie). AllByRecursion IsCookie cs) (sym form.none) none))
