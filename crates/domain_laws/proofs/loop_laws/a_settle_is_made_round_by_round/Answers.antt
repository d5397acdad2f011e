use Rattle.domain_laws.proofs.Looping.{fresh_are, nothing_gone, one_round, one_round_ticked, run_out, settled}
use Rattle.domain_laws.proofs.loop_laws.a_settle_is_made_round_by_round.Goals as goal

pub returns : goal.returns
returns c = record { begins = nothing_gone; fresh = fresh_are; loud = one_round; ticked = one_round_ticked; settled = settled; out = run_out }
