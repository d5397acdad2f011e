use Rattle.std.proofs.Common.{◌≤◌, ◌*◌}
use Rattle.part_bench.proofs.ports.Ports.settle.Given as goal

abbrev pub invariant-loop : goal.invariant-loop
invariant-loop l = l.taken ≤ 2 * l.counter
