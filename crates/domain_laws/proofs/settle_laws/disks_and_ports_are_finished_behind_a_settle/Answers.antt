use Rattle.domain_laws.proofs.Resting.{disk_ticks_once, disks_end, port_ticks_once, ports_end}
use Rattle.domain_laws.proofs.settle_laws.disks_and_ports_are_finished_behind_a_settle.Goals as goal

pub returns : goal.returns
returns c = record { disks = disks_end; ports = ports_end; ticks = disk_ticks_once; port_ticks = port_ticks_once }
