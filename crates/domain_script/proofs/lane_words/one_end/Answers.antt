use Rattle.std.proofs.Common.{List, ℕ, Option, Some, None, IfNone}
use Rattle.domain_script.specs.declared.event.EndName.{EndName}
use Rattle.domain_script.specs.declared.fields.EndKind.{EndKind}
use Rattle.domain_script.specs.declared.fields.Field.TheVariants.{End}
use Rattle.domain_script.specs.NamesState.{NamesState}
use Rattle.domain_script.specs.Spells.{IsOfKind, NamesEnd}
use Rattle.script_words.specs.Words.{words}
use Rattle.domain_script.proofs.FieldValues.{SpellsNothing}
use Rattle.domain_script.proofs.RowLemmas.{no_one}
use Rattle.domain_script.proofs.lane_words.one_end.Goals as goal

none_of_kind : (names : NamesState) (kind : EndKind) (word : List ℕ) (found : Option EndName) → IfNone found ((end : EndName) → NamesEnd names word end → IsOfKind kind end → ⊥)
    → IfNone found (SpellsNothing names (End kind) word)
none_of_kind names kind word None none = λ end spelled. none end spelled.0 spelled.1
none_of_kind names kind word (Some end) none = tt

pub returns-clause-none : goal.returns-clause-none
returns-clause-none c =
    no_one c.declared_end.result c.args.names.now (End c.args.kind) (words c.args.fields.now) c.in_ok-one_word.field-0.now c.in_ok-one_word.ensures
    (none_of_kind c.args.names.now c.args.kind c.in_ok-one_word.field-0.now c.declared_end.result c.declared_end.ensures.none)
