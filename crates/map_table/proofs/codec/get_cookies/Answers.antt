use Rattle.std.proofs.Common.{length, arith}
use Rattle.map_table.proofs.Getting.{cookies_by_place}
use Rattle.map_table.proofs.codec.get_cookies.Goals as goal

pub returns : goal.returns
returns c =
    cookies_by_place c.loop-i.cookies c.args.at (length c.args.cookies.now) c.args.bytes.now c.loop-i.auto.cookies
    (λ k d below. c.loop-i.invariant k d (omega arith))
