use Rattle.script_laws.proofs.ScriptLaws.{script_calls, script_faults, script_flushes, script_writes}
use Rattle.script_laws.proofs.laws.calls_of_the_image_are_told.Goals as goal

pub returns : goal.returns
returns c = record { calls = script_calls; flushes = script_flushes; writes = script_writes; faults = script_faults }
