use Rattle.std.proofs.Common.{◌≡◌, ◌≤◌, length}
use Rattle.part_bench.proofs.copies.repeat.Given as goal
use Rattle.part_bench.specs.Sizes.{memory_long}

abbrev pub invariant-loop : goal.invariant-loop
invariant-loop l = record {
  count : l.copies ≤ l.counter;
  pages : length l.memory ≡ memory_long;
  same : length l.to ≡ length l.from;
}
