use Rattle.std.proofs.Common.{◌≡◌, ◌↔◌, true, take, replicate}
use Rattle.kept_requests.proofs.block_words.are_all.Given as goal

abbrev pub invariant-loop-byte : goal.invariant-loop-byte
invariant-loop-byte l = (l.all ≡ true) ↔ (take l.byte-index l.bytes ≡ replicate l.byte-index l.first)
