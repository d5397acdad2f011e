use Rattle.disk_lane.specs.Events.{answered}
use Rattle.recorded_lanes.proofs.LaneStepping.{server_steps}
use Rattle.recorded_lanes.proofs.stepping.server_step.Goals as goal

pub returns-clause-steps : goal.returns-clause-steps
returns-clause-steps g c =
    server_steps c.args.lane.now c.step_server_into-runs.new.self g.D.Store c.args.image.now
    c.step_server_into-runs.new.store c.args.in_settle c.args.disk
    (answered c.step_server_into-runs.result c.step_server_into-runs.new.out)
    c.args.journal.now c.leave_server.new.journal c.leave_server.result
    c.step_server_into-runs.ensures.step c.step_server_into-runs.ensures.store c.leave_server.ensures.leaves
