use Rattle.std.proofs.Common.{List, subst}
use Rattle.ldom_report.specs.LaneEvents.{end_of}
use Rattle.recorded_lanes.specs.OnePort.{PortEndSteps}
use Rattle.world_parts.specs.lane_models.PortState.{PortState}
use Rattle.recorded_lanes.proofs.ports.PortLanes.step_end.Goals as goal

pub returns : goal.returns
returns c =
    subst (λ (w : List PortState). PortEndSteps c.args.in_settle c.args.port (end_of c.args.side) w c.args.journal.now
    c.step_port.result c.step_port.new.journal c.step_port.new.lanes) c.self.view_is c.step_port.ensures
