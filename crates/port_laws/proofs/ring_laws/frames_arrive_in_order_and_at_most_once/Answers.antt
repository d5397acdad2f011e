use Rattle.port_laws.proofs.FramesOnce.{guest_takes_in_order, hub_takes_in_order}
use Rattle.port_laws.proofs.ring_laws.frames_arrive_in_order_and_at_most_once.Goals as goal

pub returns : goal.returns
returns c = record { to_switch = hub_takes_in_order; to_guest = guest_takes_in_order }
