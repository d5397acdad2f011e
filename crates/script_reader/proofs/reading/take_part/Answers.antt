use Rattle.std.proofs.Common.{◌≡◌, ◌+◌, ℕ, [], List, ◌++◌, take, drop, true, sym, ap, ◌∙◌, subst, append-nil, Ok}
use Rattle.std.proofs.lemmas.List.{take-append-drop}
use Rattle.std.proofs.lemmas.Result.{err_from_is_err_and}
use Rattle.domain_script.specs.Pieces.{HasNoFeed}
use Rattle.script_reader.specs.Parts.{MovesPart}
use Rattle.domain_script.proofs.Feeds.{has_no_all, has_no_append, has_no_take}
use Rattle.script_reader.proofs.PartLemmas.{part_moved, part_refused}
use Rattle.script_reader.proofs.reading.take_part.Goals as goal

pub returns-in_err-extend-in-Some-clause-moves : goal.returns-in_err-extend-in-Some-clause-moves
returns-in_err-extend-in-Some-clause-moves c =
    let p = err_from_is_err_and c.from_residual.result c.from_residual.ensures.1 in
    let rest : List ℕ = c.rest-rest.result.now in
    let n : ℕ = c.in-Some.feed in
    let cut : c.args.piece.now ≡ take n rest ++ drop n rest = sym c.rest-rest.ensures.value ∙ sym (take-append-drop n rest) in
    rw (p.1, p.2)
    (part_refused c.args.piece.now c.args.line.now.items (take n rest) (drop n rest) c.extend.new.line.items
    c.in_err-extend-in-Some.field-0.0 cut c.requires.no_feed (has_no_take 10 rest n c.in-Some.ensures.0.before)
    c.in_err-extend-in-Some.ensures.extends)

pub returns-in_err-extend-in-None-clause-moves : goal.returns-in_err-extend-in-None-clause-moves
returns-in_err-extend-in-None-clause-moves c =
    let p = err_from_is_err_and c.from_residual-in_err-extend-in-None.result c.from_residual-in_err-extend-in-None.ensures.1 in
    let rest : List ℕ = c.rest-rest.result.now in
    let cut : c.args.piece.now ≡ rest ++ [] = sym c.rest-rest.ensures.value ∙ sym (append-nil rest) in
    rw (p.1, p.2)
    (part_refused c.args.piece.now c.args.line.now.items rest [] c.extend-in-None.new.line.items
    c.in_err-extend-in-None.field-0.0 cut c.requires.no_feed (has_no_all 10 rest c.in-None.ensures)
    c.in_err-extend-in-None.ensures.extends)

pub returns-in_ok-extend-in-Some-clause-moves : goal.returns-in_ok-extend-in-Some-clause-moves
returns-in_ok-extend-in-Some-clause-moves c =
    let rest : List ℕ = c.rest-rest.result.now in
    let n : ℕ = c.in-Some.feed in
    let moved : MovesPart rest c.args.line.now.items (Ok true) (drop (n + 1) rest) c.extend.new.line.items =
    part_moved rest c.args.line.now.items c.extend.new.line.items n c.in-Some.ensures.0.high c.in-Some.ensures.1
    c.in-Some.ensures.0.before c.requires.no_feed c.in_ok-extend-in-Some.ensures.extends in
    let after : drop (n + 1) rest ≡ c.skip.new.self = ap (λ (l : List ℕ). drop (n + 1) l) c.rest-rest.ensures.value ∙ sym c.skip.ensures.value in
    subst (λ (l : List ℕ). MovesPart l c.args.line.now.items (Ok true) c.skip.new.self c.extend.new.line.items) c.rest-rest.ensures.value
    (subst (λ (l : List ℕ). MovesPart rest c.args.line.now.items (Ok true) l c.extend.new.line.items) after moved)

pub returns-in_ok-extend-in-None-clause-moves : goal.returns-in_ok-extend-in-None-clause-moves
returns-in_ok-extend-in-None-clause-moves c =
    let rest : List ℕ = c.rest-rest.result.now in
    let is : c.extend-in-None.new.line.items ≡ c.args.line.now.items ++ rest = c.in_ok-extend-in-None.ensures.extends.0 in (
      is ∙ ap (λ (l : List ℕ). c.args.line.now.items ++ l) c.rest-rest.ensures.value,
      c.clear.ensures,
      subst (λ (l : List ℕ). HasNoFeed l) (sym is)
          (has_no_append 10 c.args.line.now.items rest c.requires.no_feed (has_no_all 10 rest c.in-None.ensures)),
      c.in_ok-extend-in-None.ensures.extends.1,
    )
