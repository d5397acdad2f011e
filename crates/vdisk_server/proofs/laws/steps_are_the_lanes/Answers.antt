use Rattle.vdisk_server.proofs.LaneSteps.{served, wire_after}
use Rattle.vdisk_server.proofs.laws.steps_are_the_lanes.Goals as goal

pub returns-clause-served : goal.returns-clause-served
returns-clause-served c = served

pub returns-clause-wire : goal.returns-clause-wire
returns-clause-wire c = wire_after
