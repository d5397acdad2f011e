use Rattle.domain_laws.proofs.Looping.{answer_wants, names_of_disks, names_of_ports, round_of_disks, round_of_ports, ticks_of_disks, ticks_of_ports, wants_in_names, wants_in_round, wants_in_ticks}
use Rattle.domain_laws.proofs.Loops.{disk_round_wants, disk_ticks_want, disk_turn_wants, port_round_wants, port_ticks_want, port_turn_wants}
use Rattle.domain_laws.proofs.loop_laws.want_of_memory_leaves_a_front_of_a_settle.Goals as goal

pub returns : goal.returns
returns c = record { client = disk_round_wants; server = disk_turn_wants; guest = port_round_wants; at_switch = port_turn_wants; of_disks = round_of_disks; of_ports = round_of_ports; disk_ticks = disk_ticks_want; port_ticks = port_ticks_want; ticks_of_disks = ticks_of_disks; ticks_of_ports = ticks_of_ports; answer = answer_wants; names_of_disks = names_of_disks; names_of_ports = names_of_ports; in_round = wants_in_round; in_ticks = wants_in_ticks; in_names = wants_in_names }
