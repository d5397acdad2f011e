use Rattle.std.proofs.Common.{◌≡◌, ◌↔◌, true, take}
use Rattle.kept_requests.proofs.block_words.are_same.Given as goal

abbrev pub invariant-loop-k : goal.invariant-loop-k
invariant-loop-k l = (l.all ≡ true) ↔ (take l.k l.a ≡ take l.k l.b)
