use Rattle.std.proofs.Common.{◌+◌, ◌≢◌, length, arith}
use Rattle.cookie_copy.proofs.Addresses.{paged_below}
use Rattle.cookie_copy.proofs.reading.read_part.Goals as goal

pub read_addresses-requires-clause-below : goal.read_addresses-requires-clause-below
read_addresses-requires-clause-below c =
    let some : length c.args.buf.now ≢ 0 = search arith in
    paged_below (c.args.cookie.now.address + c.args.window.now.skip) (length c.args.buf.now) some c.requires.paged
