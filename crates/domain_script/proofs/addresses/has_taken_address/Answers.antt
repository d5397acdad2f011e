use Rattle.std.proofs.Common.{ℕ, List, sym, ◌∙◌}
use Rattle.domain_script.proofs.FreeAddresses.{free_told}
use Rattle.script_words.specs.Addresses.{is_among}
use Rattle.domain_script.specs.Declarations.{addresses}
use Rattle.script_words.specs.Words.{bytes_of}
use Rattle.script_words.proofs.AddressTests.{not_tested, tested}
use Rattle.domain_script.proofs.addresses.has_taken_address.Goals as goal

pub returns-in-Some : goal.returns-in-Some
returns-in-Some c =
    free_told c.in-Some.address (addresses c.args.names.now.ports) c.is_free_address.result c.is_free_address.ensures
    ∙ sym (tested 6 c.args.word.now c.in-Some.address (λ (bytes : List ℕ). is_among bytes (addresses c.args.names.now.ports)) c.in-Some.ensures.some)

pub returns-in-None : goal.returns-in-None
returns-in-None c = sym (not_tested 6 c.args.word.now (is_among (bytes_of c.args.word.now) (addresses c.args.names.now.ports)) c.in-None.ensures.none)
