use Rattle.std.proofs.Common.{◌≡◌, List, take, sym, subst, arith, rules}
use Rattle.std.specs.List.{AllByRecursion}
use Rattle.map_table.specs.Cookies.{IsCookie}
use Rattle.map_table.specs.declared.cookie.Cookie.{Cookie}
use Rattle.vio_tag.specs.declared.message.MsgBody.{MsgBody}
use Rattle.vio_tag.specs.declared.message.MsgBody.TheVariants.{DringReg}
use Rattle.vio_tag.specs.Form.{BodyHasWidths, HasForm}
use Rattle.vio_tag.proofs.Widths.{registration_has_widths}
use Rattle.vio_tag.proofs.encoding.put_body.Goals as goal

pub returns-in-DringReg-clause-widths : goal.returns-in-DringReg-clause-widths
returns-in-DringReg-clause-widths c =
    let arm = c.in-DringReg in
    let is : c.args.body.now ≡ DringReg arm.ident arm.slots arm.slot_size arm.options arm.count arm.cookies = search rules in
    let form : HasForm (DringReg arm.ident arm.slots arm.slot_size arm.options arm.count arm.cookies) =
    subst (λ (body : MsgBody). HasForm body) is c.requires in
    let each : AllByRecursion IsCookie (take arm.count arm.cookies) =
    subst (λ (cs : List Cookie). AllByRecursion IsCookie cs) c.first_cookies.ensures.first c.put_dring_reg.ensures.each in
    subst (λ (body : MsgBody). BodyHasWidths body) (sym is)
    (registration_has_widths arm.ident arm.slots arm.slot_size arm.options arm.count arm.cookies form (omega arith) (omega arith) (omega arith) (omega arith) c.first_cookies.ensures.fourteen each)
