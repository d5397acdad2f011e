use Rattle.script_laws.proofs.ScriptLaws.{script_once}
use Rattle.script_laws.proofs.laws.requests_complete_once_in_order.Goals as goal

pub returns : goal.returns
returns c = script_once
