use Rattle.domain_laws.proofs.Arriving.{to_guest, to_switch}
use Rattle.domain_laws.proofs.frame_laws.frames_of_each_port_arrive_in_order.Goals as goal

pub returns : goal.returns
returns c = record { to_switch = to_switch; to_guest = to_guest }
