use Rattle.std.proofs.Common.{sym, ap, ◌∙◌, inl, inr}
use Rattle.script_reader.specs.LinesState.{LinesState}
use Rattle.script_reader.proofs.Readers.{ended_reads, not_past_limits}
use Rattle.script_reader.proofs.lines.Lines.advance.Goals as goal

pub returns-in-Ended-clause-reads : goal.returns-in-Ended-clause-reads
returns-in-Ended-clause-reads g c =
    let is = sym (ap (λ (s : LinesState). s.stop) c.self.view_is) ∙ c.in-Ended.is in
    ended_reads c.args.self.now c.forget_line.new.self (g.S.Source.left c.args.source.now) is c.forget_line.ensures

pub returns-in-TooLong-clause-reads : goal.returns-in-TooLong-clause-reads
returns-in-TooLong-clause-reads g c =
    let is = sym (ap (λ (s : LinesState). s.stop) c.self.view_is) ∙ c.in-TooLong.is in
    λ goes. absurd (not_past_limits c.args.self.now (g.S.Source.left c.args.source.now) (inl is) goes)

pub returns-in-TooMany-clause-reads : goal.returns-in-TooMany-clause-reads
returns-in-TooMany-clause-reads g c =
    let is = sym (ap (λ (s : LinesState). s.stop) c.self.view_is) ∙ c.in-TooMany.is in
    λ goes. absurd (not_past_limits c.args.self.now (g.S.Source.left c.args.source.now) (inr is) goes)
