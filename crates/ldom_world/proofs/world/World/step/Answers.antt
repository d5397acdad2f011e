use Rattle.std.proofs.lemmas.Result.{on_ok_weaker}
use Rattle.recorded_lanes.specs.ldom_report.LaneEvents.{end_of}
use Rattle.ldom_world.proofs.Turning.{disk_turned, port_turned}
use Rattle.ldom_world.proofs.world.World.step.Goals as goal

pub returns-in-Disk-clause-made : goal.returns-in-Disk-clause-made
returns-in-Disk-clause-made g c =
    on_ok_weaker c.step.result
    (λ made. disk_turned c.args.lane.kind c.args.lane.number (end_of c.args.side) c.args.self.now c.step.new.world
    c.args.journal.now.entries c.step.new.journal.entries c.in-Disk.is made) c.step.ensures.made

pub returns-in-Port-clause-made : goal.returns-in-Port-clause-made
returns-in-Port-clause-made g c =
    on_ok_weaker c.step-in-Port.result
    (λ made. port_turned c.args.lane.kind c.args.lane.number (end_of c.args.side) c.args.self.now c.step-in-Port.new.world
    c.args.journal.now.entries c.step-in-Port.new.journal.entries c.in-Port.is made) c.step-in-Port.ensures.made
