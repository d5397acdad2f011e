use Rattle.lane_models.proofs.CoreLaws.{open_a, open_b, rests_a, rests_b}
use Rattle.lane_models.proofs.end_laws.an_end_rests_on_what_it_heard.Goals as goal

pub returns : goal.returns
returns c = record { initiator = rests_a; responder = rests_b; initiator_open = open_a; responder_open = open_b }
