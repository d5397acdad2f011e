use Rattle.std.proofs.Common.{◌≤◌, ◌+◌, ◌*◌}
use Rattle.part_bench.proofs.requests.run.Given as goal

abbrev pub invariant-loop-k : goal.invariant-loop-k
invariant-loop-k l = record {
  ids : l.lane ≤ l.k;
  few : l.done ≤ 100000 * (l.k + 1);
}
