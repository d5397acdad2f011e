use Rattle.std.proofs.Common.{ℕ, Bool, false, List, Option, Ok, refl, subst, sym}
use Rattle.script_reader.specs.LinesState.{GivesLine, ReaderAnswers, to_come}
use Rattle.ldom_report.specs.Stops.{ReaderStandsAt, StopsReading}
use Rattle.ldom_report.specs.declared.stop.Stop.{Stop}
use Rattle.ldom_report.proofs.NextLine.{goes_behind, going_before, keeps_ends, same_number, stands_at, stays_stopped, stops_at, stops_at_end}
use Rattle.ldom_report.proofs.stop.next_line.Goals as goal

pub returns-in-Ok-true-clause-gives : goal.returns-in-Ok-true-clause-gives
returns-in-Ok-true-clause-gives g c =
    let rest : Option (List ℕ) = to_come c.args.lines.now (g.S.Source.left c.args.source.now) in
    let left : Option (List ℕ) = to_come c.advance.new.self (g.S.Source.left c.advance.new.source) in
    subst (λ (b : Bool). ReaderAnswers rest left c.args.lines.now (Ok b) c.advance.new.self) c.in-Ok-true.field-0-test (c.in-Ok-true.ensures.reads c.requires.goes)

pub returns-in-Ok-true-clause-goes : goal.returns-in-Ok-true-clause-goes
returns-in-Ok-true-clause-goes g c =
    let rest : Option (List ℕ) = to_come c.args.lines.now (g.S.Source.left c.args.source.now) in
    let left : Option (List ℕ) = to_come c.advance.new.self (g.S.Source.left c.advance.new.source) in
    let gives : GivesLine rest left c.args.lines.now c.advance.new.self =
    subst (λ (b : Bool). ReaderAnswers rest left c.args.lines.now (Ok b) c.advance.new.self) c.in-Ok-true.field-0-test (c.in-Ok-true.ensures.reads c.requires.goes) in
    goes_behind c.advance.new.self.stop rest left c.advance.new.self.line gives.ends

pub returns-in-Ok-false-clause-stops : goal.returns-in-Ok-false-clause-stops
returns-in-Ok-false-clause-stops g c =
    let rest : Option (List ℕ) = to_come c.args.lines.now (g.S.Source.left c.args.source.now) in
    let left : Option (List ℕ) = to_come c.advance.new.self (g.S.Source.left c.advance.new.source) in
    stops_at_end rest left c.args.lines.now c.advance.new.self
    (subst (λ (b : Bool). ReaderAnswers rest left c.args.lines.now (Ok b) c.advance.new.self) c.in-Ok-false.field-0-test (c.in-Ok-false.ensures.reads c.requires.goes))

pub returns-in-Ok-false-clause-number : goal.returns-in-Ok-false-clause-number
returns-in-Ok-false-clause-number g c =
    let rest : Option (List ℕ) = to_come c.args.lines.now (g.S.Source.left c.args.source.now) in
    let left : Option (List ℕ) = to_come c.advance.new.self (g.S.Source.left c.advance.new.source) in
    let reads : ReaderAnswers rest left c.args.lines.now (Ok false) c.advance.new.self =
    subst (λ (b : Bool). ReaderAnswers rest left c.args.lines.now (Ok b) c.advance.new.self) c.in-Ok-false.field-0-test (c.in-Ok-false.ensures.reads c.requires.goes) in
    reads.0.count

pub returns-in-Err-clause-stops : goal.returns-in-Err-clause-stops
returns-in-Err-clause-stops g c =
    let rest : Option (List ℕ) = to_come c.args.lines.now (g.S.Source.left c.args.source.now) in
    let left : Option (List ℕ) = to_come c.advance.new.self (g.S.Source.left c.advance.new.source) in
    subst (λ (stop : Stop). StopsReading stop rest left c.advance.new.self.held c.args.lines.now.number) (sym c.of_reader.ensures)
    (stops_at c.in-Err.fault rest left c.args.lines.now c.advance.new.self (c.in-Err.ensures.reads c.requires.goes))

pub returns-in-Err-clause-number : goal.returns-in-Err-clause-number
returns-in-Err-clause-number g c =
    let rest : Option (List ℕ) = to_come c.args.lines.now (g.S.Source.left c.args.source.now) in
    let left : Option (List ℕ) = to_come c.advance.new.self (g.S.Source.left c.advance.new.source) in
    same_number c.in-Err.fault rest left c.args.lines.now c.advance.new.self (c.in-Err.ensures.reads c.requires.goes)

pub returns-in-Ok-true-clause-going : goal.returns-in-Ok-true-clause-going
returns-in-Ok-true-clause-going g c other =
    let rest : Option (List ℕ) = to_come c.args.lines.now (g.S.Source.left c.args.source.now) in
    let left : Option (List ℕ) = to_come c.advance.new.self (g.S.Source.left c.advance.new.source) in
    going_before c.args.lines.now.stop rest left c.args.lines.now c.advance.new.self _ c.requires.goes c.in-Ok-true.ensures.advances
    (λ is. cc (c.in-Ok-true.field-0-test, is))

pub returns-in-Err-clause-going : goal.returns-in-Err-clause-going
returns-in-Err-clause-going g c other =
    let rest : Option (List ℕ) = to_come c.args.lines.now (g.S.Source.left c.args.source.now) in
    let left : Option (List ℕ) = to_come c.advance.new.self (g.S.Source.left c.advance.new.source) in
    going_before c.args.lines.now.stop rest left c.args.lines.now c.advance.new.self _ c.requires.goes c.in-Err.ensures.advances (λ is. cc is)

pub returns-in-Ok-true-clause-ends : goal.returns-in-Ok-true-clause-ends
returns-in-Ok-true-clause-ends g c =
    let rest : Option (List ℕ) = to_come c.args.lines.now (g.S.Source.left c.args.source.now) in
    let left : Option (List ℕ) = to_come c.advance.new.self (g.S.Source.left c.advance.new.source) in
    keeps_ends c.args.lines.now.stop c.advance.new.self.stop _ _
    (stays_stopped c.args.lines.now.stop rest left c.args.lines.now c.advance.new.self _ refl c.in-Ok-true.ensures.advances) c.in-Ok-true.ensures.ends

pub returns-in-Ok-false-clause-ends : goal.returns-in-Ok-false-clause-ends
returns-in-Ok-false-clause-ends g c =
    let rest : Option (List ℕ) = to_come c.args.lines.now (g.S.Source.left c.args.source.now) in
    let left : Option (List ℕ) = to_come c.advance.new.self (g.S.Source.left c.advance.new.source) in
    keeps_ends c.args.lines.now.stop c.advance.new.self.stop _ _
    (stays_stopped c.args.lines.now.stop rest left c.args.lines.now c.advance.new.self _ refl c.in-Ok-false.ensures.advances) c.in-Ok-false.ensures.ends

pub returns-in-Err-clause-ends : goal.returns-in-Err-clause-ends
returns-in-Err-clause-ends g c =
    let rest : Option (List ℕ) = to_come c.args.lines.now (g.S.Source.left c.args.source.now) in
    let left : Option (List ℕ) = to_come c.advance.new.self (g.S.Source.left c.advance.new.source) in
    keeps_ends c.args.lines.now.stop c.advance.new.self.stop _ _
    (stays_stopped c.args.lines.now.stop rest left c.args.lines.now c.advance.new.self _ refl c.in-Err.ensures.advances) c.in-Err.ensures.ends

pub returns-in-Ok-false-clause-stands : goal.returns-in-Ok-false-clause-stands
returns-in-Ok-false-clause-stands g c =
    let rest : Option (List ℕ) = to_come c.args.lines.now (g.S.Source.left c.args.source.now) in
    let left : Option (List ℕ) = to_come c.advance.new.self (g.S.Source.left c.advance.new.source) in
    let reads : ReaderAnswers rest left c.args.lines.now (Ok false) c.advance.new.self =
    subst (λ (b : Bool). ReaderAnswers rest left c.args.lines.now (Ok b) c.advance.new.self) c.in-Ok-false.field-0-test (c.in-Ok-false.ensures.reads c.requires.goes) in
    reads.0.stop

pub returns-in-Err-clause-stands : goal.returns-in-Err-clause-stands
returns-in-Err-clause-stands g c =
    let rest : Option (List ℕ) = to_come c.args.lines.now (g.S.Source.left c.args.source.now) in
    let left : Option (List ℕ) = to_come c.advance.new.self (g.S.Source.left c.advance.new.source) in
    subst (λ (stop : Stop). ReaderStandsAt stop c.advance.new.self.stop) (sym c.of_reader.ensures)
    (stands_at c.in-Err.fault rest left c.args.lines.now c.advance.new.self (c.in-Err.ensures.reads c.requires.goes))
