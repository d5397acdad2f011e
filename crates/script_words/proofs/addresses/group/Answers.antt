use Rattle.std.proofs.Common.{◌≡◌, ℕ, true, false, List, sym, ◌∙◌, subst}
use Rattle.script_words.specs.Addresses.{IsGroupAddress}
use Rattle.script_words.proofs.HexWords.{one_exactly}
use Rattle.script_words.proofs.addresses.group.Goals as goal

pub returns-in_err-address-clause-none : goal.returns-in_err-address-clause-none
returns-in_err-address-clause-none c = rw c.from_residual.ensures (λ address spelled _. c.in_err-address.ensures.none address spelled)

pub returns-else-is_group-clause-none : goal.returns-else-is_group-clause-none
returns-else-is_group-clause-none c = λ address spelled of_group.
    let same : address ≡ c.in_ok-address.address = one_exactly 6 c.args.word.now address c.in_ok-address.address spelled c.in_ok-address.ensures.some in
    let both : false ≡ true = sym c.if-is_group.false ∙ c.is_group.ensures.1 (subst (λ (a : List ℕ). IsGroupAddress a) same of_group) in cc
