use Rattle.domain_laws.proofs.ByLines.{disk_by_line, disk_by_script, port_by_line, port_by_script}
use Rattle.domain_laws.proofs.line_laws.a_line_forges_no_other_lane.Goals as goal

pub returns : goal.returns
returns c = record { of_disk = disk_by_line; of_port = port_by_line; disk_by_script = disk_by_script; port_by_script = port_by_script }
