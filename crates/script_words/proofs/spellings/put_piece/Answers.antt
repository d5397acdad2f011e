use Rattle.script_words.proofs.spellings.put_piece.Goals as goal

pub returns-in_err-len-clause-none : goal.returns-in_err-len-clause-none
returns-in_err-len-clause-none c = rw c.from_residual.ensures (λ piece spells. c.in_err-len.ensures.none piece.len piece.bytes spells)
