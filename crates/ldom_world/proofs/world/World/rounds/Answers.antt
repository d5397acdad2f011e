use Rattle.ldom_world.proofs.Turning.{at_error, rounds_want}
use Rattle.ldom_world.proofs.world.World.rounds.Goals as goal

pub returns-in_err-round-clause-so_far : goal.returns-in_err-round-clause-so_far
returns-in_err-round-clause-so_far g c =
    at_error c.from_residual.result _
    (rounds_want c.loop.counter c.args.self.now c.loop.self c.round.new.self c.args.journal.now.entries
    c.loop.journal.entries c.round.new.journal.entries c.args.count c.loop-test.true c.loop.invariant.turned
    c.in_err-round.ensures.begun)
