use Rattle.std.proofs.Common.{◌≡◌, ◌≢◌, ℕ, List, [], ◌++◌, Option, IfSome, refl, sym, ap, ◌∙◌, subst, arith}
use Rattle.std.specs.Io.KnownBytes.{Keeps, IsAtEnd, prepend_known}
use Rattle.std.proofs.lemmas.Result.{err_from_is_err_and}
use Rattle.script_reader.specs.declared.lines.LinesStop.{LinesStop}
use Rattle.script_reader.specs.declared.lines.LinesStop.TheVariants.{Going, Ended, TooMany}
use Rattle.script_reader.specs.LinesState.{LinesState, to_come, GivesNone}
use Rattle.domain_script.specs.Pieces.{DecidesNothing}
use Rattle.script_reader.proofs.ToCome.{keeps_behind, none_there}
use Rattle.script_reader.proofs.Readers.{is_to_come, gives_none, no_line, some_to_come, none_to_come}
use Rattle.script_reader.proofs.lines.Lines.read_behind_last.Goals as goal

pub returns-in_err-fill-clause-reads : goal.returns-in_err-fill-clause-reads
returns-in_err-fill-clause-reads g c =
    let left : Option (List ℕ) = g.S.Source.left c.args.source.now in
    let after : Option (List ℕ) = g.S.Source.left c.fill.new.source in
    let p = err_from_is_err_and c.from_residual.result c.from_residual.ensures.1 in
    let held : List ℕ = c.self.inside.line.items ++ c.fill.new.self in
    let none : GivesNone (to_come c.args.self.now left) (prepend_known held after) c.args.self.now
    (record { held = held; line = []; number = c.self.inside.number; stop = Going }) Going =
    gives_none c.self.inside c.args.self.now held left after Going c.self.view_is c.requires.forgotten
    (keeps_behind left after c.self.inside.line.items c.self.inside.piece c.fill.new.self c.fill.ensures.told) in
    let going : Going ≡ c.self.inside.stop = sym (ap (λ (s : LinesState). s.stop) c.self.view_is ∙ c.requires.going) in
    let empty : c.self.inside.line.items ≡ [] =
    no_line c.self.inside c.args.self.now c.self.view_is c.requires.forgotten
    (c.self.invariant.all (ap (λ (s : LinesState). s.number) c.self.view_is ∙ c.requires.all)) in
    let none_held : held ≡ [] = ap (λ (l : List ℕ). l ++ c.fill.new.self) empty ∙ c.in_err-fill.ensures.same in
    rw (p.1, p.2) (
      subst (λ (stop : LinesStop). GivesNone (to_come c.args.self.now left) (prepend_known held after) c.args.self.now
          (record { held = held; line = []; number = c.self.inside.number; stop = stop }) Going) going none,
      subst (λ (l : List ℕ). DecidesNothing c.args.self.now.number l) (sym none_held) (record { no_feed = tt; short = omega arith; none = λ all. refl }),
    )

pub returns-then-branch-clause-reads : goal.returns-then-branch-clause-reads
returns-then-branch-clause-reads g c =
    let left : Option (List ℕ) = g.S.Source.left c.args.source.now in
    let after : Option (List ℕ) = g.S.Source.left c.fill.new.source in
    let held : List ℕ = c.self.inside.line.items ++ c.fill.new.self in
    let told : Keeps (prepend_known (c.self.inside.line.items ++ c.self.inside.piece) left) (prepend_known held after) =
    keeps_behind left after c.self.inside.line.items c.self.inside.piece c.fill.new.self c.fill.ensures.told in
    let empty : c.self.inside.line.items ≡ [] =
    no_line c.self.inside c.args.self.now c.self.view_is c.requires.forgotten
    (c.self.invariant.all (ap (λ (s : LinesState). s.number) c.self.view_is ∙ c.requires.all)) in
    let some : held ≢ [] = λ none. c.in_ok-fill.ensures.some.0 c.if-branch.true (sym (ap (λ (l : List ℕ). l ++ c.fill.new.self) empty) ∙ none) in (
      gives_none c.self.inside c.args.self.now held left after TooMany c.self.view_is c.requires.forgotten told,
      c.requires.all,
      subst (λ (rest : Option (List ℕ)). IfSome rest (λ bytes. bytes ≢ [])) (is_to_come c.self.inside c.args.self.now left c.self.view_is c.requires.forgotten)
          (some_to_come (prepend_known (c.self.inside.line.items ++ c.self.inside.piece) left) after held told some),
    )

pub returns-else-branch-clause-reads : goal.returns-else-branch-clause-reads
returns-else-branch-clause-reads g c =
    let left : Option (List ℕ) = g.S.Source.left c.args.source.now in
    let after : Option (List ℕ) = g.S.Source.left c.fill.new.source in
    let held : List ℕ = c.self.inside.line.items ++ c.fill.new.self in
    let told : Keeps (prepend_known (c.self.inside.line.items ++ c.self.inside.piece) left) (prepend_known held after) =
    keeps_behind left after c.self.inside.line.items c.self.inside.piece c.fill.new.self c.fill.ensures.told in
    let empty : c.self.inside.line.items ≡ [] =
    no_line c.self.inside c.args.self.now c.self.view_is c.requires.forgotten
    (c.self.invariant.all (ap (λ (s : LinesState). s.number) c.self.view_is ∙ c.requires.all)) in
    let drained : c.fill.new.self ≡ [] = none_there c.fill.new.self c.in_ok-fill.field-0 c.in_ok-fill.ensures.some.1 c.if-branch.false in
    let none : held ≡ [] = ap (λ (l : List ℕ). l ++ c.fill.new.self) empty ∙ drained in (
      gives_none c.self.inside c.args.self.now held left after Ended c.self.view_is c.requires.forgotten told,
      subst (λ (rest : Option (List ℕ)). IsAtEnd rest) (is_to_come c.self.inside c.args.self.now left c.self.view_is c.requires.forgotten)
          (none_to_come (prepend_known (c.self.inside.line.items ++ c.self.inside.piece) left) after held told none (c.in_ok-fill.ensures.end drained)),
    )
