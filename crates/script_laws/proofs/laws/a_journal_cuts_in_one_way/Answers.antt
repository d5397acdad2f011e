use Rattle.script_laws.proofs.OneCut.{one_cut}
use Rattle.script_laws.proofs.laws.a_journal_cuts_in_one_way.Goals as goal

pub returns : goal.returns
returns c = one_cut
