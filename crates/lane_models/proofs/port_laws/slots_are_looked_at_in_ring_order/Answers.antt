use Rattle.lane_models.proofs.SlotsLooked.{first_in_order, none_in_order}
use Rattle.lane_models.proofs.port_laws.slots_are_looked_at_in_ring_order.Goals as goal

pub returns : goal.returns
returns c = record { none = none_in_order; first = first_in_order }
