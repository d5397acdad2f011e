use Rattle.std.proofs.Common.{◌≡◌, length, rules}
use Rattle.hex.specs.Hex.{IsBytes}
use Rattle.script_words.proofs.AddressTests.{own_tells}
use Rattle.script_words.proofs.addresses.is_own.Goals as goal

pub returns : goal.returns
returns c =
    let long : length c.args.address.now ≡ 6 = search rules in
    let small : IsBytes c.args.address.now = search rules in own_tells c.args.address.now long small
