use Rattle.std.proofs.Common.{◌≡◌, length, take}
use Rattle.kept_requests.specs.BlockWord.{cycle}
use Rattle.line_words.proofs.bytes_text.whole_block.Given as goal

-- the front that was filled
abbrev pub invariant-loop-k : goal.invariant-loop-k
invariant-loop-k l = (length l.block ≡ 512) × (take l.k l.block ≡ cycle l.n l.k l.bytes)
