use Rattle.std.proofs.Common.{◌∙◌}
use Rattle.script_words.proofs.WordTests.{number_tells}
use Rattle.script_words.proofs.numbers.is_number.Goals as goal

pub returns : goal.returns
returns c = c.is_some.ensures ∙ number_tells c.args.word.now c.number.result c.number.ensures.some c.number.ensures.none
