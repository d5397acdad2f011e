use Rattle.std.proofs.Common.{◌≡◌, true, false, sym, ◌∙◌, subst}
use Rattle.script_words.specs.declared.spelled.Name.{Name}
use Rattle.domain_script.specs.NamesState.{CanDeclare}
use Rattle.domain_script.proofs.Naming.{one_name}
use Rattle.domain_script.proofs.declaring.new_name.Goals as goal

pub returns-in_err-name-clause-none : goal.returns-in_err-name-clause-none
returns-in_err-name-clause-none c = rw c.from_residual.ensures (λ name spelled _. c.in_err-name.ensures.none name spelled)

pub returns-else-can_declare-clause-none : goal.returns-else-can_declare-clause-none
returns-else-can_declare-clause-none c = λ name spelled can.
    let same : name ≡ c.in_ok-name.name = one_name c.args.word.now name c.in_ok-name.name spelled c.in_ok-name.ensures.some in
    let both : false ≡ true = sym c.if-can_declare.false ∙ c.can_declare.ensures.1 (subst (λ (n : Name). CanDeclare c.args.names.now c.args.kind n) same can) in cc
