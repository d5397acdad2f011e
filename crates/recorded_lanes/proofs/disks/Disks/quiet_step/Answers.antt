use Rattle.std.proofs.Common.{true}
use Rattle.ldom_report.specs.LaneEvents.{end_of}
use Rattle.recorded_lanes.proofs.Lifting.{makes_quiet_step, quiet_step_agrees, steps_many}
use Rattle.recorded_lanes.proofs.disks.Disks.quiet_step.Goals as goal

pub returns-clause-made : goal.returns-clause-made
returns-clause-made g c =
    makes_quiet_step c.args.self.now c.step_end.new.self c.args.disk (end_of c.args.side) c.reserve.new.self
    c.in_ok-calm.calm c.step_end.new.journal c.args.journal.now.entries c.in_ok-reserve.ensures.entries
    c.in_ok-calm.ensures.steps

pub returns-clause-many : goal.returns-clause-many
returns-clause-many g c =
    steps_many true c.args.self.now c.step_end.new.self c.args.disk (end_of c.args.side) c.reserve.new.self
    c.in_ok-calm.calm c.step_end.new.journal c.in_ok-calm.ensures.steps

pub returns-clause-agrees : goal.returns-clause-agrees
returns-clause-agrees g c =
    quiet_step_agrees c.args.self.now c.step_end.new.self c.args.disk (end_of c.args.side) c.reserve.new.self
    c.in_ok-calm.calm c.step_end.new.journal c.args.journal.now.entries c.in_ok-reserve.ensures.entries
    c.in_ok-calm.ensures.steps c.requires.agrees
