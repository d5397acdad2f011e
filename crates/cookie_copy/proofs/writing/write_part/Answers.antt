use Rattle.std.proofs.Common.{◌+◌, ◌≢◌, length, arith}
use Rattle.cookie_copy.proofs.Addresses.{paged_below}
use Rattle.cookie_copy.proofs.writing.write_part.Goals as goal

pub write_addresses-requires-clause-below : goal.write_addresses-requires-clause-below
write_addresses-requires-clause-below c =
    let some : length c.args.bytes.now ≢ 0 = search arith in
    paged_below (c.args.cookie.now.address + c.args.window.now.skip) (length c.args.bytes.now) some c.requires.paged
