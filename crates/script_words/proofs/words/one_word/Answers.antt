use Rattle.std.proofs.Common.{List, ℕ, length, arith, ap}
use Rattle.script_words.proofs.WordLemmas.{words_some}
use Rattle.script_words.proofs.words.one_word.Goals as goal

pub returns-in-Some : goal.returns-in-Some
returns-in-Some c = λ one.
    let longer = ap (λ (ws : List (List ℕ)). length ws) c.in-Some.ensures in
    absurd (omega (arith, longer, words_some c.in-Some.field-0.1.now))
