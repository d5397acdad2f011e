use Rattle.port_laws.proofs.FramesAll.{guest_counted, hub_counted}
use Rattle.port_laws.proofs.arrival_laws.each_frame_arrives_or_is_held_or_lost.Goals as goal

pub returns : goal.returns
returns c = record { to_switch = guest_counted; to_guest = hub_counted }
