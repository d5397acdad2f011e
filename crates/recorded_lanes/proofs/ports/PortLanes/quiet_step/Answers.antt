use Rattle.std.proofs.Common.{◌<◌, ◌^◌, List, length, subst, true}
use Rattle.ldom_entries.specs.declared.entry.Entry.{Entry}
use Rattle.ldom_report.specs.LaneEvents.{end_of}
use Rattle.recorded_lanes.proofs.PortLifting.{few_given, makes_quiet_port_step, port_step_accepted, port_step_given, port_step_many}
use Rattle.recorded_lanes.proofs.ports.PortLanes.quiet_step.Goals as goal

pub step_end-requires-clause-few : goal.step_end-requires-clause-few
step_end-requires-clause-few c =
    few_given c.args.journal.now.entries c.args.self.now c.requires.agrees
    (subst (λ (l : List Entry). length l < 2 ^ 63) c.in_ok-reserve.ensures.entries c.len-len.ensures.small)

pub returns-clause-made : goal.returns-clause-made
returns-clause-made c =
    makes_quiet_port_step c.args.self.now c.step_end.new.self c.args.port (end_of c.args.side) c.reserve.new.self c.step_end.result c.step_end.new.journal
    c.args.journal.now.entries c.in_ok-reserve.ensures.entries
    c.step_end.ensures

pub returns-clause-many : goal.returns-clause-many
returns-clause-many c =
    port_step_many c.args.self.now c.step_end.new.self c.args.port (end_of c.args.side) c.reserve.new.self c.step_end.result c.step_end.new.journal
    c.args.journal.now.entries c.in_ok-reserve.ensures.entries true
    c.step_end.ensures

pub returns-clause-agrees : goal.returns-clause-agrees
returns-clause-agrees c =
    port_step_given c.args.self.now c.step_end.new.self c.args.port (end_of c.args.side) c.reserve.new.self c.step_end.result c.step_end.new.journal
    c.args.journal.now.entries c.in_ok-reserve.ensures.entries true
    c.step_end.ensures c.requires.agrees

pub returns-clause-accepted : goal.returns-clause-accepted
returns-clause-accepted c =
    port_step_accepted c.args.self.now c.step_end.new.self c.args.port (end_of c.args.side) c.reserve.new.self c.step_end.result c.step_end.new.journal
    c.args.journal.now.entries c.in_ok-reserve.ensures.entries true
    c.step_end.ensures
