use Rattle.switch_laws.proofs.Forwarding.{never_back, set_full, sets_apart, sets_together}
use Rattle.switch_laws.proofs.forward_laws.a_frame_goes_to_its_forwarding_set.Goals as goal

pub returns : goal.returns
returns c = record { apart = sets_apart; together = sets_together; full = set_full; never_back = never_back }
