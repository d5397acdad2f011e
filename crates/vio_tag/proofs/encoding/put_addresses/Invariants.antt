use Rattle.std.proofs.Common.{◌≡◌, ◌*◌, length, take}
use Rattle.std.specs.List.{AllByRecursion, flat_map}
use Rattle.vio_bytes.specs.Place.{put_at}
use Rattle.vio_tag.proofs.encoding.put_addresses.Given as goal

abbrev pub invariant-loop-i : goal.invariant-loop-i
invariant-loop-i l = record {
  room : length l.bytes ≡ 56;
  each : AllByRecursion (λ address. length address ≡ 6) (take l.i l.addresses);
  long : length (flat_map (λ address. address) (take l.i l.addresses)) ≡ 6 * l.i;
  written : l.bytes ≡ put_at 10 (flat_map (λ address. address) (take l.i l.addresses)) l.fn.bytes;
}
