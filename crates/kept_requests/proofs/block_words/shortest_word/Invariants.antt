use Rattle.std.proofs.Common.{◌≡◌, drop}
use Rattle.std.specs.Prelude.{find, unwrap_or}
use Rattle.kept_requests.specs.BlockWord.{repeats, word_length, word_lengths}
use Rattle.kept_requests.proofs.block_words.shortest_word.Given as goal

abbrev pub invariant-loop-n : goal.invariant-loop-n
invariant-loop-n l = word_length l.block ≡ unwrap_or (find (repeats l.block) (drop l.n-index word_lengths)) 512
