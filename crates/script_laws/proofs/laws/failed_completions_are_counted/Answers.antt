use Rattle.script_laws.proofs.ScriptLaws.{script_failed}
use Rattle.script_laws.proofs.laws.failed_completions_are_counted.Goals as goal

pub returns : goal.returns
returns c = script_failed
