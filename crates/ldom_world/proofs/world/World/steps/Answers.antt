use Rattle.recorded_lanes.specs.ldom_report.LaneEvents.{end_of}
use Rattle.recorded_lanes.specs.world_parts.Lines.{lane_named}
use Rattle.ldom_world.proofs.Turning.{at_error, steps_want}
use Rattle.ldom_world.proofs.world.World.steps.Goals as goal

pub returns-in_err-step-clause-so_far : goal.returns-in_err-step-clause-so_far
returns-in_err-step-clause-so_far g c =
    at_error c.from_residual.result _
    (steps_want (lane_named c.args.lane) (end_of c.args.side) c.loop.counter c.args.self.now c.loop.self c.step.new.self
    c.args.journal.now.entries c.loop.journal.entries c.step.new.journal.entries c.args.count c.loop-test.true
    c.loop.invariant.turned
    c.in_err-step.ensures.same.0 c.in_err-step.ensures.same.1)
