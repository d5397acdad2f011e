use Rattle.script_words.proofs.spellings.put_fill.Goals as goal

pub returns-in_err-len-clause-none : goal.returns-in_err-len-clause-none
returns-in_err-len-clause-none c = rw c.from_residual.ensures (λ fill spells. c.in_err-len.ensures.none fill.len fill.bytes spells)
