use Rattle.ldom_world.proofs.Turning.{at_error, disks_want, kinds_turned, ports_want}
use Rattle.ldom_world.proofs.world.World.round.Goals as goal

pub returns-in_err-turns_of-clause-begun : goal.returns-in_err-turns_of-clause-begun
returns-in_err-turns_of-clause-begun g c =
    at_error c.from_residual.result _
    (disks_want c.args.self.now c.turns_of.new.self c.args.journal.now.entries c.turns_of.new.journal.entries
    c.in_err-turns_of.ensures.begun)

pub returns-in_err-turns_of-2-clause-begun : goal.returns-in_err-turns_of-2-clause-begun
returns-in_err-turns_of-2-clause-begun g c =
    at_error c.from_residual-in_err-turns_of-2.result _
    (ports_want c.args.self.now c.turns_of.new.self c.turns_of-2.new.self c.args.journal.now.entries
    c.turns_of.new.journal.entries c.turns_of-2.new.journal.entries c.turns_of.ensures.many
    c.in_ok-turns_of.ensures.made c.in_err-turns_of-2.ensures.begun)

pub returns-clause-made : goal.returns-clause-made
returns-clause-made g c =
    kinds_turned c.args.self.now c.turns_of.new.self c.turns_of-2.new.self c.args.journal.now.entries
    c.turns_of.new.journal.entries c.turns_of-2.new.journal.entries c.turns_of.ensures.many
    c.in_ok-turns_of.ensures.made c.in_ok-turns_of-2.ensures.made
