use Rattle.recorded_lanes.specs.Steps.{moment}
use Rattle.ldom_world.proofs.SettlingAdds.{on_err, ports_round_front, whole_round}
use Rattle.ldom_world.proofs.world.World.settle_round.Goals as goal

pub returns-in_err-ports-clause-begun : goal.returns-in_err-ports-clause-begun
returns-in_err-ports-clause-begun g c =
    on_err c.from_residual-in_err-ports.result
    (ports_round_front (moment c.args.self.now c.args.journal.now.entries) (moment c.round_of.new.self c.round_of.new.journal.entries)
    (moment c.round_of-2.new.self c.round_of-2.new.journal.entries) _ c.in_ok-disks.ensures.made
    c.in_err-ports.ensures.begun)

pub returns-then-disks-clause-made : goal.returns-then-disks-clause-made
returns-then-disks-clause-made g c =
    whole_round (moment c.args.self.now c.args.journal.now.entries) (moment c.round_of.new.self c.round_of.new.journal.entries)
    (moment c.round_of-2.new.self c.round_of-2.new.journal.entries) _ c.in_ok-disks.ensures.made c.in_ok-ports.ensures.made

pub returns-else-disks-clause-made : goal.returns-else-disks-clause-made
returns-else-disks-clause-made g c =
    whole_round (moment c.args.self.now c.args.journal.now.entries) (moment c.round_of.new.self c.round_of.new.journal.entries)
    (moment c.round_of-2.new.self c.round_of-2.new.journal.entries) _ c.in_ok-disks.ensures.made c.in_ok-ports.ensures.made
