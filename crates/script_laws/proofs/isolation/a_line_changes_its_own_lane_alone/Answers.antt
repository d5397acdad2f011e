use Rattle.script_laws.proofs.Isolated.{line_of_disk, line_of_port, own_region}
use Rattle.script_laws.proofs.isolation.a_line_changes_its_own_lane_alone.Goals as goal

pub returns : goal.returns
returns c = record { of_disk = line_of_disk; of_port = line_of_port; image = own_region }
