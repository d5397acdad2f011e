use Rattle.std.proofs.Common.{◌<◌, arith}
use Rattle.ldom_world.proofs.Turning.{at_error, round_wants}
use Rattle.recorded_lanes.specs.world_parts.Lines.{number_of_kind}
use Rattle.ldom_world.proofs.world.World.turns_of.Goals as goal

pub returns-in_err-step_both-clause-begun : goal.returns-in_err-step_both-clause-begun
returns-in_err-step_both-clause-begun g c =
    let less : c.loop-number.number < number_of_kind c.args.kind c.args.self.now =
    omega (arith, c.count_of-number-end.ensures, c.loop-number-test.true) in
    at_error c.from_residual.result _
    (round_wants c.args.kind c.loop-number.number c.args.self.now c.loop-number.self c.step_both.new.self
    c.args.journal.now.entries c.loop-number.journal.entries c.step_both.new.journal.entries less
    c.loop-number.invariant.turned c.in_err-step_both.ensures.begun)
