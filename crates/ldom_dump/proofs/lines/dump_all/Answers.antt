use Rattle.std.proofs.Common.{inl, ℕ, refl, ap, subst, sym}
use Rattle.script_reader.specs.LinesState.{GoesOn, LinesState, ends_after}
use Rattle.ldom_dump.proofs.DumpLemmas.{lines_unread}
use Rattle.ldom_dump.proofs.lines.dump_all.Goals as goal

pub returns-in-Err-clause-dumps : goal.returns-in-Err-clause-dumps
returns-in-Err-clause-dumps g c = lines_unread (g.S.Source.left c.args.source.now) (g.K.Sink.written c.args.out.now) c.args.text.now c.requires

pub returns-in-Err-clause-ends : goal.returns-in-Err-clause-ends
returns-in-Err-clause-ends g c = inl refl

pub dump_lines-requires-clause-goes : goal.dump_lines-requires-clause-goes
dump_lines-requires-clause-goes g c = subst (λ (l : LinesState). GoesOn l (g.S.Source.left c.args.source.now)) (sym c.in-Ok.ensures) tt

pub returns-in-Ok-clause-ends : goal.returns-in-Ok-clause-ends
returns-in-Ok-clause-ends g c =
    let base : ℕ = g.S.Source.ends c.args.source.now in
    c.dump_lines.ensures.ends base (sym (ap (λ (l : LinesState). ends_after l.stop base) c.in-Ok.ensures))
