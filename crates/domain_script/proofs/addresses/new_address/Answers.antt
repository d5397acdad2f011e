use Rattle.std.proofs.Common.{◌≡◌, ℕ, true, false, List, sym, ◌∙◌, subst}
use Rattle.script_words.specs.Addresses.{IsAddress}
use Rattle.domain_script.specs.NamesState.{IsFreeAddress}
use Rattle.script_words.proofs.HexWords.{one_exactly}
use Rattle.domain_script.proofs.addresses.new_address.Goals as goal

pub returns-in_err-address-clause-none : goal.returns-in_err-address-clause-none
returns-in_err-address-clause-none c = rw c.from_residual.ensures (λ address spelled _ _. c.in_err-address.ensures.none address spelled)

pub returns-else-may_be_declared-clause-none : goal.returns-else-may_be_declared-clause-none
returns-else-may_be_declared-clause-none c = λ address spelled own free.
    let same : address ≡ c.in_ok-address.address = one_exactly 6 c.args.word.now address c.in_ok-address.address spelled c.in_ok-address.ensures.some in
    let both : false ≡ true =
    sym c.if-may_be_declared.false
    ∙ c.may_be_declared.ensures.1 (subst (λ (a : List ℕ). IsAddress a × IsFreeAddress c.args.names.now a) same (own, free)) in cc
