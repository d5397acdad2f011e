use Rattle.script_laws.proofs.ScriptLaws.{script_statuses}
use Rattle.script_laws.proofs.laws.completions_succeed_or_fail.Goals as goal

pub returns : goal.returns
returns c = script_statuses
