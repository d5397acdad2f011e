use Rattle.script_laws.proofs.ScriptLaws.{script_worded}
use Rattle.script_laws.proofs.laws.entries_have_their_words.Goals as goal

pub returns : goal.returns
returns c = script_worded
