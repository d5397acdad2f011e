use Rattle.script_words.proofs.Feeds.{has_no_all, has_no_take}
use Rattle.script_words.proofs.WordLemmas.{words_none, words_cut}
use Rattle.script_words.proofs.words.split_once.Goals as goal

pub returns-in_err-space : goal.returns-in_err-space
returns-in_err-space c = rw c.from_residual.ensures (words_none c.args.text.now (has_no_all 32 c.args.text.now c.in_err-space.ensures))

pub returns : goal.returns
returns c =
    words_cut c.args.text.now c.in_ok-space.space (has_no_take 32 c.args.text.now c.in_ok-space.space c.in_ok-space.ensures.0.before)
    c.in_ok-space.ensures.0.high c.in_ok-space.ensures.1
