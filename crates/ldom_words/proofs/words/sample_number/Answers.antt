use Rattle.std.proofs.Common.{◌<◌, ◌≤◌, sym, arith, rules}
use Rattle.script_words.specs.Words.{SpellsNumber}
use Rattle.ldom_words.specs.Words.{sample_count}
use Rattle.ldom_words.proofs.Deciding.{sample_spelled, sample_too_large}
use Rattle.ldom_words.proofs.words.sample_number.Goals as goal

pub returns-then-n-lt-SAMPLES : goal.returns-then-n-lt-SAMPLES
returns-then-n-lt-SAMPLES c =
    let spells : SpellsNumber c.args.word.now c.in_ok-n.n = search rules in
    let below : c.in_ok-n.n < sample_count = omega (arith, c.if-n-lt-SAMPLES.true) in
    sym (sample_spelled c.args.word.now c.in_ok-n.n spells below)

pub returns-else-n-lt-SAMPLES : goal.returns-else-n-lt-SAMPLES
returns-else-n-lt-SAMPLES c =
    let spells : SpellsNumber c.args.word.now c.in_ok-n.n = search rules in
    let above : sample_count ≤ c.in_ok-n.n = omega (arith, c.if-n-lt-SAMPLES.false) in
    sym (sample_too_large c.args.word.now c.in_ok-n.n spells above)
