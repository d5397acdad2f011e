use Rattle.lane_models.proofs.OpeningOrder.{opens_hearing, opens_saying}
use Rattle.lane_models.proofs.end_laws.sessions_of_an_end_open_in_order.Goals as goal

pub returns : goal.returns
returns c = record { saying = opens_saying; hearing = opens_hearing }
