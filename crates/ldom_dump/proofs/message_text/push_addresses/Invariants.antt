use Rattle.std.proofs.Common.{◌≡◌, ◌+◌, ◌*◌, ◌≤◌, ◌++◌, length, take}
use Rattle.std.specs.List.{flat_map}
use Rattle.hex.specs.Hex.{encode_lower}
use Rattle.ldom_dump.proofs.message_text.push_addresses.Given as goal

abbrev pub invariant-loop-address : goal.invariant-loop-address
invariant-loop-address l = record {
  text : l.text ≡ l.initial.text ++ flat_map encode_lower (take l.address-index l.addresses);
  len : length l.text ≤ length l.initial.text + 12 * l.address-index;
}
