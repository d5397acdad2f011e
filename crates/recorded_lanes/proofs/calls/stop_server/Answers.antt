use Rattle.std.proofs.Common.{refl}
use Rattle.ldom_entries.specs.declared.entry.Entry.TheVariants as entry
use Rattle.recorded_lanes.proofs.Answering.{not_stopped, was_stopped}
use Rattle.recorded_lanes.proofs.calls.stop_server.Goals as goal

pub returns-then-stop-clause-answers : goal.returns-then-stop-clause-answers
returns-then-stop-clause-answers c =
    was_stopped c.args.disk c.args.lane.now c.stop.new.self (entry.Stopped c.args.disk) c.stop.result c.if-stop.true
    c.stop.ensures.step refl

pub returns-else-stop-clause-answers : goal.returns-else-stop-clause-answers
returns-else-stop-clause-answers c =
    not_stopped c.args.disk c.args.lane.now c.stop.new.self c.calm_lane.result c.stop.result c.if-stop.false
    c.stop.ensures.step c.calm_lane.ensures
