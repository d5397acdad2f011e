use Rattle.kept_requests.proofs.BlockWords.{repeats_one}
use Rattle.kept_requests.proofs.block_words.is_one_byte.Goals as goal

pub returns-then-begins_again : goal.returns-then-begins_again
returns-then-begins_again c = repeats_one c.args.block.now c.are_all.result c.are_all.ensures
