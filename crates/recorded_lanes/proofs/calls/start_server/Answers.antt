use Rattle.std.proofs.Common.{refl}
use Rattle.ldom_entries.specs.declared.entry.Entry.TheVariants as entry
use Rattle.recorded_lanes.proofs.Answering.{not_started, was_started}
use Rattle.recorded_lanes.proofs.calls.start_server.Goals as goal

pub returns-then-start-clause-answers : goal.returns-then-start-clause-answers
returns-then-start-clause-answers c =
    was_started c.args.disk c.args.lane.now c.start.new.self (entry.Started c.args.disk) c.start.result c.if-start.true
    c.start.ensures.step refl

pub returns-else-start-clause-answers : goal.returns-else-start-clause-answers
returns-else-start-clause-answers c =
    not_started c.args.disk c.args.lane.now c.start.new.self c.calm_lane.result c.start.result c.if-start.false
    c.start.ensures.step c.calm_lane.ensures
