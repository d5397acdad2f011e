use Rattle.std.proofs.Common.{arith}
use Rattle.domain_script.specs.declared.rows.RowKind.TheVariants as row
use Rattle.script_words.specs.Words.{words}
use Rattle.domain_script.proofs.RowLemmas.{no_row_found}
use Rattle.script_words.proofs.WordLemmas.{words_some}
use Rattle.domain_script.proofs.rows.row_with_fields.Goals as goal

pub returns-in-Settle-clause-none : goal.returns-in-Settle-clause-none
returns-in-Settle-clause-none c =
    no_row_found row.Settle (words c.args.fields.now) c.args.names.now c.args.word.now (cc (c.in_ok-row_named.ensures, c.in-Settle.is))
    (λ same. omega (arith, same, words_some c.args.fields.now))
