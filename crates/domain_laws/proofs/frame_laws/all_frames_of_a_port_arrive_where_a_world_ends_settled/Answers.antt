use Rattle.domain_laws.proofs.Arriving.{all_to_guest, all_to_switch}
use Rattle.domain_laws.proofs.frame_laws.all_frames_of_a_port_arrive_where_a_world_ends_settled.Goals as goal

pub returns : goal.returns
returns c = record { to_switch = all_to_switch; to_guest = all_to_guest }
