use Rattle.std.proofs.Common.{◌≡◌, ◌≤◌, length}
use Rattle.trimmed_arrays.specs.Trimmed.{padded}
use Rattle.trimmed_arrays.proofs.trim.without_zero_words.Given as goal

abbrev pub invariant-loop-before : goal.invariant-loop-before
invariant-loop-before l = record {
  same : padded (length l.array) l.front ≡ l.array;
  within : length l.front ≤ length l.array;
}

abbrev pub decreases-loop-before : goal.decreases-loop-before
decreases-loop-before l = length l.front
