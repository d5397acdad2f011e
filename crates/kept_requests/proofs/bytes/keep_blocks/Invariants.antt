use Rattle.std.proofs.Common.{◌≡◌, ◌+◌, ◌*◌, ◌≤◌, ◌++◌, length}
use Rattle.std.specs.List.{sum}
use Rattle.kept_requests.specs.Packed.{AreKept, unpacked}
use Rattle.kept_requests.proofs.bytes.keep_blocks.Given as goal

abbrev pub invariant-loop-block : goal.invariant-loop-block
invariant-loop-block l = record {
  kept : AreKept l.lengths.items l.kept.items;
  plain : sum l.lengths.items ≡ length l.kept.items;
  items : unpacked l.lengths.items l.kept.items ++ l.rest ≡ unpacked l.initial.lengths.items l.initial.kept.items ++ l.bytes;
  count : 512 * length l.lengths.items + length l.rest ≡ 512 * length l.initial.lengths.items + length l.bytes;
  long : length l.kept.items + length l.rest ≤ length l.initial.kept.items + length l.bytes;
  room : l.initial.kept.capacity ≤ l.kept.capacity;
  length_room : l.initial.lengths.capacity ≤ l.lengths.capacity;
}

abbrev pub decreases-loop-block : goal.decreases-loop-block
decreases-loop-block l = length l.rest
