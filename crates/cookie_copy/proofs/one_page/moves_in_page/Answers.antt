use Rattle.std.proofs.Common.{sym}
use Rattle.cookie_copy.proofs.Addresses.{moves_in_page}
use Rattle.cookie_copy.proofs.one_page.moves_in_page.Goals as goal

pub returns : goal.returns
returns c =
    moves_in_page c.args.up c.args.access c.args.table.now c.args.cookies.now c.args.window.skip c.args.window.len c.in_ok-address.address
    c.if-not-up.false (sym c.if-not-is_aligned.ensures) c.in_ok-address.ensures.some c.in_ok-address.ensures.page c.in_ok-address.ensures.spots
    c.in_ok-address.ensures.holds (sym c.if-not-may_move.ensures)
