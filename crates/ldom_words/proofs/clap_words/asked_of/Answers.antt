use Rattle.std.proofs.Common.{◌≡◌, ◌∙◌, ap, sym, Some, None, codes, option_map, rules}
use Rattle.clap.specs.Words.{found_of}
use Rattle.clap.specs.Walk.{rows_of}
use Rattle.clap.proofs.WalkLemmas.{first_value-rows}
use Rattle.ldom_words.specs.Asking.{wanted_of}
use Rattle.ldom_words.proofs.Meeting.{word_wanted}
use Rattle.ldom_words.proofs.clap_words.asked_of.Goals as goal

pub returns-in_err-word : goal.returns-in_err-word
returns-in_err-word c =
    let none : c.from_residual-in_err-word.result ≡ None = search rules in
    ap (option_map wanted_of) none
    ∙ word_wanted c.args.matches.now c.in_ok-name.name.now (rows_of (found_of c.in_ok-name.own.now)) None (sym c.in_ok-name.ensures.name) (sym c.in_ok-name.ensures.rows)
    (sym c.eq.ensures ∙ c.if-eq.false) (c.in_err-word.ensures ∙ first_value-rows (found_of c.in_ok-name.own.now) (codes "word"))

pub returns : goal.returns
returns c =
    c.asked_with.ensures
    ∙ word_wanted c.args.matches.now c.in_ok-name.name.now (rows_of (found_of c.in_ok-name.own.now)) (Some c.in_ok-word.word.now) (sym c.in_ok-name.ensures.name) (sym c.in_ok-name.ensures.rows)
    (sym c.eq.ensures ∙ c.if-eq.false) (c.in_ok-word.ensures ∙ first_value-rows (found_of c.in_ok-name.own.now) (codes "word"))
