use Rattle.std.proofs.Common.{◌≡◌, ℕ, ◌+◌, List, ◌++◌, Option, IfSome, Bool, true, false, length, vec_len, Ok, Err, sym, ap, rules, ◌∙◌, subst, arith}
use Rattle.std.specs.Io.KnownBytes.{IsAtEnd, prepend_known}
use Rattle.script_reader.specs.declared.lines.LinesFault.{LinesFault}
use Rattle.script_reader.specs.declared.lines.LinesFault.TheVariants.{Long}
use Rattle.script_reader.specs.declared.lines.LinesStop.{LinesStop}
use Rattle.script_reader.specs.declared.lines.LinesStop.TheVariants.{Going, Ended, TooLong}
use Rattle.script_reader.specs.LinesState.{LinesState, HasFeed, LineEnds, to_come}
use Rattle.domain_script.specs.ScriptLines.{TakesLine, BeginsWithLonger}
use Rattle.script_reader.specs.Parts.{ReadsLine}
use Rattle.script_reader.proofs.ToCome.{takes_last, is_all, at_end, empty_tells}
use Rattle.script_reader.proofs.Readers.{is_to_come, gives_none}
use Rattle.script_reader.proofs.lines.Lines.read_next.Goals as goal

pub returns-in-Ok-true-clause-reads : goal.returns-in-Ok-true-clause-reads
returns-in-Ok-true-clause-reads g c =
    let left : Option (List ℕ) = g.S.Source.left c.args.source.now in
    let begun : Option (List ℕ) = prepend_known (c.self.inside.line.items ++ c.self.inside.piece) left in
    let is : begun ≡ to_come c.args.self.now left = is_to_come c.self.inside c.args.self.now left c.self.view_is c.requires.forgotten in
    let after : Option (List ℕ) = prepend_known c.read_line.new.piece (g.S.Source.left c.read_line.new.source) in
    let line : List ℕ = c.read_line.new.line.items in
    let reads : ReadsLine begun (Ok true) line c.read_line.new.piece (g.S.Source.left c.read_line.new.source) =
    subst (λ (b : Bool). ReadsLine begun (Ok b) line c.read_line.new.piece (g.S.Source.left c.read_line.new.source))
    c.in-Ok-true.field-0-test c.in-Ok-true.ensures.reads in
    let going : Going ≡ c.self.inside.stop = sym (ap (λ (s : LinesState). s.stop) c.self.view_is ∙ c.requires.going) in
    record {
      told = subst (λ (rest : Option (List ℕ)). TakesLine rest after line) is reads.0;
      short = c.in-Ok-true.ensures.short;
      count = ap (λ (s : LinesState). s.number + 1) c.self.view_is;
      few = omega (arith, ap (λ (s : LinesState). s.number) c.self.view_is);
      ends = subst (λ (stop : LinesStop). LineEnds stop (to_come c.args.self.now left) after line) going
          (subst (λ (rest : Option (List ℕ)). HasFeed rest after line) is reads.1);
      held = search rules;
    }

pub returns-then-is_empty-clause-reads : goal.returns-then-is_empty-clause-reads
returns-then-is_empty-clause-reads g c =
    let left : Option (List ℕ) = g.S.Source.left c.args.source.now in
    let begun : Option (List ℕ) = prepend_known (c.self.inside.line.items ++ c.self.inside.piece) left in
    let is : begun ≡ to_come c.args.self.now left = is_to_come c.self.inside c.args.self.now left c.self.view_is c.requires.forgotten in
    let after : Option (List ℕ) = g.S.Source.left c.read_line.new.source in
    let line : List ℕ = c.read_line.new.line.items in
    let reads : ReadsLine begun (Ok false) line c.read_line.new.piece after =
    subst (λ (b : Bool). ReadsLine begun (Ok b) line c.read_line.new.piece after)
    c.in-Ok-false.field-0-test c.in-Ok-false.ensures.reads in
    let long : vec_len c.read_line.new.line ≡ length line = search rules in
    let tells = empty_tells line (vec_len c.read_line.new.line) c.is_empty.result long c.is_empty.ensures in (
      gives_none c.self.inside c.args.self.now (line ++ c.read_line.new.piece) left after Ended c.self.view_is c.requires.forgotten reads.0,
      subst (λ (rest : Option (List ℕ)). IsAtEnd rest) is (at_end begun after line c.read_line.new.piece reads.0 reads.1 reads.2 (tells.0 c.if-is_empty.true)),
    )

pub returns-else-is_empty-clause-reads : goal.returns-else-is_empty-clause-reads
returns-else-is_empty-clause-reads g c =
    let left : Option (List ℕ) = g.S.Source.left c.args.source.now in
    let begun : Option (List ℕ) = prepend_known (c.self.inside.line.items ++ c.self.inside.piece) left in
    let is : begun ≡ to_come c.args.self.now left = is_to_come c.self.inside c.args.self.now left c.self.view_is c.requires.forgotten in
    let after : Option (List ℕ) = g.S.Source.left c.read_line.new.source in
    let line : List ℕ = c.read_line.new.line.items in
    let reads : ReadsLine begun (Ok false) line c.read_line.new.piece after =
    subst (λ (b : Bool). ReadsLine begun (Ok b) line c.read_line.new.piece after)
    c.in-Ok-false.field-0-test c.in-Ok-false.ensures.reads in
    let long : vec_len c.read_line.new.line ≡ length line = search rules in
    let tells = empty_tells line (vec_len c.read_line.new.line) c.is_empty.result long c.is_empty.ensures in
    let rest : Option (List ℕ) = prepend_known c.read_line.new.piece after in
    record {
      told = subst (λ (all : Option (List ℕ)). TakesLine all rest line) is
          (takes_last begun after line c.read_line.new.piece reads.0 reads.1 reads.2 c.in-Ok-false.ensures.no_feed (tells.1 c.if-is_empty.false));
      short = c.in-Ok-false.ensures.short;
      count = ap (λ (s : LinesState). s.number + 1) c.self.view_is;
      few = omega (arith, ap (λ (s : LinesState). s.number) c.self.view_is);
      ends = subst (λ (all : Option (List ℕ)). LineEnds Ended all rest line) is (is_all begun after line c.read_line.new.piece reads.0 reads.1 reads.2);
      held = search rules;
    }

pub returns-in-Err-Long-clause-reads : goal.returns-in-Err-Long-clause-reads
returns-in-Err-Long-clause-reads g c =
    let left : Option (List ℕ) = g.S.Source.left c.args.source.now in
    let begun : Option (List ℕ) = prepend_known (c.self.inside.line.items ++ c.self.inside.piece) left in
    let after : Option (List ℕ) = g.S.Source.left c.read_line.new.source in
    let reads : ReadsLine begun (Err Long) c.read_line.new.line.items c.read_line.new.piece after =
    subst (λ (fault : LinesFault). ReadsLine begun (Err fault) c.read_line.new.line.items c.read_line.new.piece after)
    c.in-Err-Long.field-0-is c.in-Err-Long.ensures.reads in (
      gives_none c.self.inside c.args.self.now (c.read_line.new.line.items ++ c.read_line.new.piece) left after TooLong c.self.view_is c.requires.forgotten reads.0,
      c.requires.few,
      subst (λ (rest : Option (List ℕ)). IfSome rest (BeginsWithLonger 3100)) (is_to_come c.self.inside c.args.self.now left c.self.view_is c.requires.forgotten) reads.1,
    )
