use Rattle.std.proofs.Common.{◌<◌, arith}
use Rattle.ldom_world.proofs.KindAdding.{ticks_want}
use Rattle.ldom_world.proofs.SettlingAdds.{on_err}
use Rattle.recorded_lanes.specs.world_parts.Lines.{number_of_kind}
use Rattle.ldom_world.proofs.world.World.ticks_of.Goals as goal

pub returns-in_err-ticked-clause-begun : goal.returns-in_err-ticked-clause-begun
returns-in_err-ticked-clause-begun g c =
    let less : c.loop-number.number < number_of_kind c.args.kind c.args.self.now =
    omega (arith, c.count_of-number-end.ensures.count, c.loop-number-test.true) in
    on_err c.from_residual.result
    (ticks_want c.args.kind c.loop-number.number c.args.self.now c.loop-number.self c.tick_of.new.self
    c.args.journal.now.entries c.loop-number.journal.entries c.tick_of.new.journal.entries c.args.had.now c.loop-number.had
    c.loop-number.some c.loop-number.invariant.ticked less c.in_err-ticked.ensures.same.0 c.in_err-ticked.ensures.same.1)
