use Rattle.std.proofs.Common.{refl, arith}
use Rattle.kept_requests.specs.BlockWord.{word_length}
use Rattle.kept_requests.proofs.BlockWords.{found_here, found_later, repeats_whole}
use Rattle.kept_requests.proofs.block_words.shortest_word.Goals as goal

pub loop-n-init : goal.loop-n-init
unfolding word_length
loop-n-init c = refl

pub loop-n-preserved : goal.loop-n-preserved
loop-n-preserved c = found_later c.args.block.now c.loop-n.n-index c.is_repeated.result c.loop-n-test.true c.is_repeated.ensures c.if-is_repeated.false c.loop-n.invariant

pub returns-clause-repeats : goal.returns-clause-repeats
returns-clause-repeats c = repeats_whole c.args.block.now c.told-block

pub returns-then-is_one_byte-clause-least : goal.returns-then-is_one_byte-clause-least
unfolding word_length
returns-then-is_one_byte-clause-least c = found_here c.args.block.now 0 c.is_one_byte.result (omega arith) c.is_one_byte.ensures c.if-is_one_byte.true refl
