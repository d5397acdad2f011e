use Rattle.domain_laws.proofs.Looping.{round_made, round_quiet}
use Rattle.domain_laws.proofs.Loops.{disk_round_begins, disk_round_goes_on, port_round_begins, port_round_goes_on}
use Rattle.domain_laws.proofs.loop_laws.a_round_is_made_lane_by_lane.Goals as goal

pub returns : goal.returns
returns c = record { disks_begin = disk_round_begins; disk_goes_on = disk_round_goes_on; ports_begin = port_round_begins; port_goes_on = port_round_goes_on; whole = round_made; made = λ start now entries quiet up. up.part_of.round.made; quiet = round_quiet }
