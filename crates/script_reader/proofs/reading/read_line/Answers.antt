use Rattle.std.proofs.Common.{◌≡◌, ℕ, Bool, true, [], ◌++◌, List, Option, Ok, subst}
use Rattle.std.specs.Io.KnownBytes.{Keeps, prepend_known}
use Rattle.std.proofs.lemmas.Result.{err_from_is_err_and}
use Rattle.script_reader.specs.Parts.{MovesPart}
use Rattle.script_reader.proofs.ToCome.{keeps_on, takes_line, has_feed, read_refused, none_there}
use Rattle.script_reader.proofs.reading.read_line.Goals as goal

pub returns-in_err-take_part-clause-reads : goal.returns-in_err-take_part-clause-reads
returns-in_err-take_part-clause-reads g c =
    let rest : Option (List ℕ) = prepend_known (c.args.line.now.items ++ c.args.piece.now) (g.S.Source.left c.args.source.now) in
    let left : Option (List ℕ) = g.S.Source.left c.fill.new.source in
    let told : Keeps rest (prepend_known (c.loop-piece.line.items ++ c.fill.new.self) left) =
    keeps_on rest (g.S.Source.left c.loop-piece.source) left c.loop-piece.line.items c.loop-piece.piece c.fill.new.self c.loop-piece.invariant.told c.fill.ensures.told in
    let p = err_from_is_err_and c.from_residual-in_err-take_part.result c.from_residual-in_err-take_part.ensures.1 in
    rw (p.1, p.2)
    (read_refused rest left c.loop-piece.line.items c.fill.new.self c.take_part.new.line.items c.take_part.new.piece
    c.in_err-take_part.field-0.0 told c.in_err-take_part.ensures.moves)

pub returns-then-branch-2-clause-reads : goal.returns-then-branch-2-clause-reads
returns-then-branch-2-clause-reads g c =
    let rest : Option (List ℕ) = prepend_known (c.args.line.now.items ++ c.args.piece.now) (g.S.Source.left c.args.source.now) in
    let left : Option (List ℕ) = g.S.Source.left c.fill.new.source in
    let told : Keeps rest (prepend_known (c.loop-piece.line.items ++ c.fill.new.self) left) =
    keeps_on rest (g.S.Source.left c.loop-piece.source) left c.loop-piece.line.items c.loop-piece.piece c.fill.new.self c.loop-piece.invariant.told c.fill.ensures.told in
    let moved : MovesPart c.fill.new.self c.loop-piece.line.items (Ok true) c.take_part.new.piece c.take_part.new.line.items =
    subst (λ (b : Bool). MovesPart c.fill.new.self c.loop-piece.line.items (Ok b) c.take_part.new.piece c.take_part.new.line.items)
    c.if-branch-2.true c.in_ok-take_part.ensures.moves in (
      takes_line rest left c.loop-piece.line.items c.fill.new.self c.take_part.new.line.items c.take_part.new.piece told moved.0 moved.1,
      has_feed rest left c.loop-piece.line.items c.fill.new.self c.take_part.new.line.items c.take_part.new.piece told moved.0,
    )

pub returns-clause-reads : goal.returns-clause-reads
returns-clause-reads g c =
    let rest : Option (List ℕ) = prepend_known (c.args.line.now.items ++ c.args.piece.now) (g.S.Source.left c.args.source.now) in
    let left : Option (List ℕ) = g.S.Source.left c.fill.new.source in
    let told : Keeps rest (prepend_known (c.loop-piece.line.items ++ c.fill.new.self) left) =
    keeps_on rest (g.S.Source.left c.loop-piece.source) left c.loop-piece.line.items c.loop-piece.piece c.fill.new.self c.loop-piece.invariant.told c.fill.ensures.told in
    let none : c.fill.new.self ≡ [] = none_there c.fill.new.self c.in_ok-fill.field-0 c.in_ok-fill.ensures.some.1 c.if-branch.false in
    (told, none, c.in_ok-fill.ensures.end none)
