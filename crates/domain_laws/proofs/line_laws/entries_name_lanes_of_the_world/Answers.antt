use Rattle.domain_laws.proofs.LeftOver.{begun_within, disk_within, port_begun_within, port_unsettled_within, port_within, unsettled_within}
use Rattle.domain_laws.proofs.line_laws.entries_name_lanes_of_the_world.Goals as goal

pub returns : goal.returns
returns c = record {
  disks = disk_within;
  ports = port_within;
  unsettled = unsettled_within;
  unsettled_ports = port_unsettled_within;
  unsettled_begun = begun_within;
  unsettled_ports_begun = port_begun_within;
}
