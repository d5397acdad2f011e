use Rattle.std.proofs.Common.{rules}
use Rattle.recorded_lanes.specs.Steps.{moment}
use Rattle.ldom_world.proofs.SettlingAdds.{on_err, ports_ticks_front, whole_ticks}
use Rattle.ldom_world.specs.SettleParts.{marks_of}
use Rattle.ldom_world.proofs.world.World.tick_lanes.Goals as goal

pub returns-in_err-ports-clause-begun : goal.returns-in_err-ports-clause-begun
returns-in_err-ports-clause-begun g c =
    on_err c.from_residual-in_err-ports.result
    (ports_ticks_front (moment c.args.self.now c.args.journal.now.entries) (moment c.ticks_of.new.self c.ticks_of.new.journal.entries)
    (moment c.ticks_of-2.new.self c.ticks_of-2.new.journal.entries) (marks_of c.args.had.now) _ _
    c.in_ok-disks.ensures.ticked c.in_err-ports.ensures.begun)

pub returns-then-disks-clause-ticked : goal.returns-then-disks-clause-ticked
returns-then-disks-clause-ticked g c =
    whole_ticks (moment c.args.self.now c.args.journal.now.entries) (moment c.ticks_of.new.self c.ticks_of.new.journal.entries)
    (moment c.ticks_of-2.new.self c.ticks_of-2.new.journal.entries) (marks_of c.args.had.now) _ c.in_ok-disks.disks
    c.in_ok-ports.ports _ c.in_ok-disks.ensures.ticked c.in_ok-ports.ensures.ticked (search rules)

pub returns-else-disks-clause-ticked : goal.returns-else-disks-clause-ticked
returns-else-disks-clause-ticked g c =
    whole_ticks (moment c.args.self.now c.args.journal.now.entries) (moment c.ticks_of.new.self c.ticks_of.new.journal.entries)
    (moment c.ticks_of-2.new.self c.ticks_of-2.new.journal.entries) (marks_of c.args.had.now) _ c.in_ok-disks.disks
    c.in_ok-ports.ports _ c.in_ok-disks.ensures.ticked c.in_ok-ports.ensures.ticked (search rules)
