use Rattle.std.proofs.Common.{map, ap, ◌∙◌}
use Rattle.std.specs.String.{string_bytes}
use Rattle.clap.specs.Words.{App, takes}
use Rattle.ldom_words.proofs.clap_words.parse.Goals as goal

pub returns-in-Err-try_get_matches_from-clause-err : goal.returns-in-Err-try_get_matches_from-clause-err
returns-in-Err-try_get_matches_from-clause-err c taken =
    c.refusal_of.ensures (c.kind.ensures ∙ c.in-Err-try_get_matches_from.ensures.passes (ap (λ (a : App). takes a (map string_bytes c.args.words.now)) c.in-Ok.ensures ∙ taken))
