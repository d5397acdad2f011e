use Rattle.domain_laws.proofs.Looping.{names_of_all}
use Rattle.domain_laws.proofs.Loops.{disk_names_begin, disk_names_go_on, port_names_begin, port_names_go_on}
use Rattle.domain_laws.proofs.loop_laws.names_are_given_lane_by_lane.Goals as goal

pub returns : goal.returns
returns c = record { disks_begin = disk_names_begin; disk_goes_on = disk_names_go_on; ports_begin = port_names_begin; port_goes_on = port_names_go_on; whole = names_of_all }
