use Rattle.std.proofs.Common.{◌≡◌, ◌++◌}
use Rattle.kept_requests.specs.BlockWord.{cycle}
use Rattle.kept_requests.proofs.bytes.push_block.Given as goal

abbrev pub invariant-loop-k : goal.invariant-loop-k
invariant-loop-k l = l.all.items ≡ l.initial.all.items ++ cycle l.n l.k l.bytes
