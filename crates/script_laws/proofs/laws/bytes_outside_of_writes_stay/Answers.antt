use Rattle.script_laws.proofs.ScriptLaws.{script_kept}
use Rattle.script_laws.proofs.laws.bytes_outside_of_writes_stay.Goals as goal

pub returns : goal.returns
returns c = script_kept
