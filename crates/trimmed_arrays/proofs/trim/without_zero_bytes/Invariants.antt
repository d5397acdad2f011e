use Rattle.std.proofs.Common.{◌≡◌, ◌≤◌, length}
use Rattle.trimmed_arrays.specs.Trimmed.{padded}
use Rattle.trimmed_arrays.proofs.trim.without_zero_bytes.Given as goal

abbrev pub invariant-loop-last : goal.invariant-loop-last
invariant-loop-last l = record {
  same : padded (length l.array) l.front ≡ l.array;
  within : length l.front ≤ length l.array;
}

abbrev pub decreases-loop-last : goal.decreases-loop-last
decreases-loop-last l = length l.front
