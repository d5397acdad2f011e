use Rattle.std.proofs.Common.{map, option_map, sym}
use Rattle.std.specs.String.{string_bytes}
use Rattle.ldom_words.specs.Asking.{wanted_of}
use Rattle.ldom_words.proofs.Deciding.{as_confirmed, as_taken}
use Rattle.ldom_words.proofs.words.read_words.Goals as goal

pub returns-in-Ok : goal.returns-in-Ok
returns-in-Ok c =
    as_confirmed (map string_bytes c.args.words.now) (option_map wanted_of c.in-Ok.asked) (option_map wanted_of c.defined.result) (option_map wanted_of c.confirmed.result)
    c.in-Ok.ensures.ok c.defined.ensures c.confirmed.ensures.same c.confirmed.ensures.none

pub returns-in-Err-Words : goal.returns-in-Err-Words
returns-in-Err-Words c = sym (as_taken (map string_bytes c.args.words.now) (λ taken. cc (c.in-Err-Words.ensures.err taken)))
