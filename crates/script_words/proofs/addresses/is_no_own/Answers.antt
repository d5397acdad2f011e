use Rattle.std.proofs.Common.{ℕ, List, not, sym, ◌∙◌}
use Rattle.script_words.specs.Addresses.{is_own}
use Rattle.script_words.specs.Words.{bytes_of}
use Rattle.script_words.proofs.AddressTests.{own_told, not_tested, tested}
use Rattle.script_words.proofs.addresses.is_no_own.Goals as goal

pub returns-in-Some : goal.returns-in-Some
returns-in-Some c =
    own_told c.args.word.now c.in-Some.address c.in-Some.ensures.some c.is_own.result c.is_own.ensures
    ∙ sym (tested 6 c.args.word.now c.in-Some.address (λ (bytes : List ℕ). not (is_own bytes)) c.in-Some.ensures.some)

pub returns-in-None : goal.returns-in-None
returns-in-None c = sym (not_tested 6 c.args.word.now (not (is_own (bytes_of c.args.word.now))) c.in-None.ensures.none)
