use Rattle.domain_laws.proofs.LoopKinds.{disk_gets, port_gets}
use Rattle.domain_laws.proofs.Looping.{ticks_of_all}
use Rattle.domain_laws.proofs.Loops.{disk_gets_none, disk_ticks_begin, disk_ticks_go_on, port_gets_none, port_ticks_begin, port_ticks_go_on}
use Rattle.domain_laws.proofs.loop_laws.ticks_are_made_lane_by_lane.Goals as goal

pub returns : goal.returns
returns c = record { disks_begin = disk_ticks_begin; disk_gets = disk_gets; disk_gets_none = disk_gets_none; disk_goes_on = disk_ticks_go_on; ports_begin = port_ticks_begin; port_gets = port_gets; port_gets_none = port_gets_none; port_goes_on = port_ticks_go_on; whole = ticks_of_all }
