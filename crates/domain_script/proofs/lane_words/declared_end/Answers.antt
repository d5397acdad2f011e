use Rattle.std.proofs.Common.{◌≡◌, true, false, sym, ◌∙◌, subst}
use Rattle.domain_script.specs.declared.event.EndName.{EndName}
use Rattle.domain_script.specs.Spells.{IsOfKind, NamesEnd}
use Rattle.domain_script.proofs.Naming.{names_no_end, names_one_end}
use Rattle.domain_script.proofs.lane_words.declared_end.Goals as goal

pub returns-in_err-lane-clause-none : goal.returns-in_err-lane-clause-none
returns-in_err-lane-clause-none c = rw c.from_residual-in_err-lane.ensures
    (λ end named _. names_no_end c.args.names.now c.args.word.now c.in_ok-name.name.now c.in_ok-name.side c.in_ok-name.ensures c.in_err-lane.ensures.none end named)

pub returns-else-is_of_kind-clause-none : goal.returns-else-is_of_kind-clause-none
returns-else-is_of_kind-clause-none c = λ end named of_kind.
    let found : EndName = record { lane = c.in_ok-lane.lane; side = c.in_ok-name.side } in
    let own : NamesEnd c.args.names.now c.args.word.now found =
    record { name = c.in_ok-name.name.now; spelled = c.in_ok-name.ensures; lane_named = c.in_ok-lane.ensures.some } in
    let same : end ≡ found = names_one_end c.args.names.now c.args.word.now end found named own in
    let both : false ≡ true = sym c.if-is_of_kind.false ∙ c.is_of_kind.ensures.1 (subst (λ (e : EndName). IsOfKind c.args.kind e) same of_kind) in cc
