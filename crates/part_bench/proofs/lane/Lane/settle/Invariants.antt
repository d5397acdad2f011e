use Rattle.std.proofs.Common.{◌≡◌, ◌≤◌}
use Rattle.part_bench.proofs.lane.Lane.settle.Given as goal

abbrev pub invariant-loop : goal.invariant-loop
invariant-loop l = record {
  same : l.self ≡ l.fn.self;
  few : l.done ≤ l.counter;
}
