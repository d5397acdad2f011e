use Rattle.std.proofs.Common.{Bool, ℕ, not, sym, ap, ◌∙◌}
use Rattle.std.specs.Prelude.{◌&&◌}
use Rattle.script_words.specs.Words.{is_within, number_of}
use Rattle.script_words.proofs.WordTests.{is_number_from, number_is}
use Rattle.domain_script.proofs.field_faults.is_out_of_bounds.Goals as goal

pub returns-in-Some : goal.returns-in-Some
returns-in-Some c = rw c.in-Number.is
    (ap not c.is_within.ensures
    ∙ ap (λ (n : ℕ). not (is_within c.in-Number.bounds n)) (sym (number_is c.args.word.now c.in-Some.n c.in-Some.ensures.some))
    ∙ ap (λ (test : Bool). test && not (is_within c.in-Number.bounds (number_of c.args.word.now))) (sym (is_number_from c.args.word.now c.in-Some.n c.in-Some.ensures.some)))
