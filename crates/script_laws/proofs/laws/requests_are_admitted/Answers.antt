use Rattle.script_laws.proofs.ScriptLaws.{script_admits}
use Rattle.script_laws.proofs.laws.requests_are_admitted.Goals as goal

pub returns : goal.returns
returns c = script_admits
