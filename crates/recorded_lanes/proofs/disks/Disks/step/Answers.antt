use Rattle.ldom_report.specs.LaneEvents.{end_of}
use Rattle.recorded_lanes.proofs.Lifting.{makes_step, step_agrees, steps_many}
use Rattle.std.proofs.Common.{false}
use Rattle.recorded_lanes.proofs.disks.Disks.step.Goals as goal

pub returns-clause-made : goal.returns-clause-made
returns-clause-made g c =
    makes_step c.args.self.now c.step_end.new.self c.args.disk (end_of c.args.side) c.reserve.new.self
    _ c.step_end.new.journal c.args.journal.now.entries c.in_ok-reserve.ensures.entries
    c.in_ok-step_end.ensures.steps

pub returns-clause-many : goal.returns-clause-many
returns-clause-many g c =
    steps_many false c.args.self.now c.step_end.new.self c.args.disk (end_of c.args.side) c.reserve.new.self
    _ c.step_end.new.journal c.in_ok-step_end.ensures.steps

pub returns-clause-agrees : goal.returns-clause-agrees
returns-clause-agrees g c =
    step_agrees c.args.self.now c.step_end.new.self c.args.disk (end_of c.args.side) c.reserve.new.self
    _ c.step_end.new.journal c.args.journal.now.entries c.in_ok-reserve.ensures.entries
    c.in_ok-step_end.ensures.steps c.requires.agrees
