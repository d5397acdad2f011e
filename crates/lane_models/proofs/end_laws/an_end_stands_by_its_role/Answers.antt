use Rattle.lane_models.proofs.CoreLaws.{stands_a, stands_b}
use Rattle.lane_models.proofs.OpeningOrder.{offers_stay}
use Rattle.lane_models.proofs.end_laws.an_end_stands_by_its_role.Goals as goal

pub returns : goal.returns
returns c = record { initiator = stands_a; responder = stands_b; offers = offers_stay }
