use Rattle.lane_laws.proofs.NearOrder.{done_finished, near_in_lane, near_in_order, near_lawful}
use Rattle.lane_laws.proofs.contents_laws.near_counts_stand_in_order.Goals as goal

pub returns : goal.returns
returns c = record { lane = near_in_lane; done = done_finished; logged = near_in_order; run = near_lawful }
