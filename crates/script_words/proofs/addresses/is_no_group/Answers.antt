use Rattle.std.proofs.Common.{ℕ, List, not, sym, ◌∙◌}
use Rattle.script_words.specs.Addresses.{is_group}
use Rattle.script_words.specs.Words.{bytes_of}
use Rattle.script_words.proofs.AddressTests.{group_told, not_tested, tested}
use Rattle.script_words.proofs.addresses.is_no_group.Goals as goal

pub returns-in-Some : goal.returns-in-Some
returns-in-Some c =
    group_told c.in-Some.address c.in-Some.ensures.some.long c.is_group.result c.is_group.ensures
    ∙ sym (tested 6 c.args.word.now c.in-Some.address (λ (bytes : List ℕ). not (is_group bytes)) c.in-Some.ensures.some)

pub returns-in-None : goal.returns-in-None
returns-in-None c = sym (not_tested 6 c.args.word.now (not (is_group (bytes_of c.args.word.now))) c.in-None.ensures.none)
