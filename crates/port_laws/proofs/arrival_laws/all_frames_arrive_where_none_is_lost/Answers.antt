use Rattle.port_laws.proofs.FramesAll.{guest_all, hub_all}
use Rattle.port_laws.proofs.arrival_laws.all_frames_arrive_where_none_is_lost.Goals as goal

pub returns : goal.returns
returns c = record { to_switch = guest_all; to_guest = hub_all }
