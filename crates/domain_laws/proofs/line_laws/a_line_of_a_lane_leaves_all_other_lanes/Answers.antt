use Rattle.domain_laws.proofs.OwnLines.{begun_around, disk_begun, disk_line, line_around, port_begun, port_line}
use Rattle.domain_laws.proofs.line_laws.a_line_of_a_lane_leaves_all_other_lanes.Goals as goal

pub returns : goal.returns
returns c = record {
  of_disk = disk_line;
  disk_begun = disk_begun;
  of_port = port_line;
  port_begun = port_begun;
  image = λ shapes image nets first lines w line part v k shape store world told run moves own there now.
      line_around shapes image nets first world told lines w line part v k shape store run moves own there now;
  image_begun = λ shapes image nets first lines w line part v k shape store world told run begun own there now.
      begun_around shapes image nets first world told lines w line part v k shape store run begun own there now;
}
