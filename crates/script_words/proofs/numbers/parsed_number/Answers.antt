use Rattle.std.proofs.Common.{◌∙◌}
use Rattle.script_words.proofs.NumberLemmas.{no_text, text_is, no_number, other_text}
use Rattle.script_words.proofs.numbers.parsed_number.Goals as goal

pub returns-in_err-ok-clause-none : goal.returns-in_err-ok-clause-none
returns-in_err-ok-clause-none c = rw c.from_residual.ensures (no_text c.args.word.now c.from_utf8.result c.from_utf8.ensures.cases c.in_err-ok.ensures.value)

pub returns-in_err-n-clause-none : goal.returns-in_err-n-clause-none
returns-in_err-n-clause-none c =
    let text = text_is c.args.word.now c.from_utf8.result c.in_ok-ok.field-0 c.from_utf8.ensures.cases c.in_ok-ok.ensures.value in
    rw c.from_residual-in_err-n.ensures (no_number c.args.word.now c.in_ok-ok.field-0.now c.parse.result text c.parse.ensures.value.0 c.in_err-n.ensures.value)

pub returns-else-eq-clause-none : goal.returns-else-eq-clause-none
returns-else-eq-clause-none c =
    let text = text_is c.args.word.now c.from_utf8.result c.in_ok-ok.field-0 c.from_utf8.ensures.cases c.in_ok-ok.ensures.value in
    other_text c.args.word.now c.in_ok-ok.field-0.now c.as_bytes.result.now c.parse.result c.in_ok-n.n c.eq.result text c.parse.ensures.value.0
    c.in_ok-n.ensures.value (c.as_bytes.ensures.value ∙ c.format.ensures.text) c.eq.ensures c.if-eq.false
