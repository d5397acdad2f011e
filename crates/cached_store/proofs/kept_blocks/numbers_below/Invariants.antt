use Rattle.std.proofs.Common.{◌≡◌, length}
use Rattle.cached_store.specs.Slots.{AreSlots}
use Rattle.cached_store.proofs.kept_blocks.numbers_below.Given as goal

abbrev pub invariant-loop-number : goal.invariant-loop-number
invariant-loop-number l = record {
  slots : AreSlots l.number l.numbers.items;
  many : length l.numbers.items ≡ l.number;
}
