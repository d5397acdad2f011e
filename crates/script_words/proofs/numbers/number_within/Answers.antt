use Rattle.std.proofs.Common.{◌≡◌, ℕ, true, sym, ◌∙◌, ap}
use Rattle.script_words.specs.Words.{is_within}
use Rattle.script_words.proofs.NumberLemmas.{one_number}
use Rattle.script_words.proofs.WordTests.{within_test}
use Rattle.script_words.proofs.numbers.number_within.Goals as goal

pub returns-else-is_within-clause-none : goal.returns-else-is_within-clause-none
returns-else-is_within-clause-none c = λ n spells within.
    let same : n ≡ c.in_ok-n.n = one_number c.args.word.now n c.in_ok-n.n spells c.in_ok-n.ensures.some in
    let test : is_within c.args.bounds c.in_ok-n.n ≡ true =
    ap (λ (k : ℕ). is_within c.args.bounds k) (sym same) ∙ within_test c.args.bounds n within in
    cc (test, c.is_within.ensures, c.if-is_within.false)
