use Rattle.domain_script.specs.declared.fields.Field.TheVariants.{LaneName}
use Rattle.script_words.specs.Words.{words}
use Rattle.domain_script.proofs.RowLemmas.{no_one}
use Rattle.domain_script.proofs.lane_words.one_lane.Goals as goal

pub returns-clause-none : goal.returns-clause-none
returns-clause-none c =
    no_one c.declared_lane.result c.args.names.now LaneName (words c.args.fields.now) c.in_ok-one_word.field-0.now c.in_ok-one_word.ensures c.declared_lane.ensures.none
