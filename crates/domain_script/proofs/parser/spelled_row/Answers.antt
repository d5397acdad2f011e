use Rattle.std.proofs.Common.{[], ◌∷◌}
use Rattle.script_words.specs.Words.{words}
use Rattle.domain_script.proofs.Spelling.{none_spelled}
use Rattle.domain_script.proofs.parser.spelled_row.Goals as goal

pub returns-in-Some-clause-none : goal.returns-in-Some-clause-none
returns-in-Some-clause-none c =
    none_spelled c.args.line.now (c.in-Some.word.now ∷ words c.in-Some.fields.now) c.args.names.now c.row_with_fields.result c.in-Some.ensures
    (λ blank. absurd (c.requires blank)) c.row_with_fields.ensures.none

pub returns-in-None-clause-none : goal.returns-in-None-clause-none
returns-in-None-clause-none c =
    none_spelled c.args.line.now (c.args.line.now ∷ []) c.args.names.now c.row_alone.result c.in-None.ensures (λ blank. absurd (c.requires blank)) c.row_alone.ensures.none
