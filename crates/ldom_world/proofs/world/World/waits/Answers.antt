use Rattle.domain_script.specs.declared.fields.LaneKind.TheVariants as kinds
use Rattle.ldom_world.proofs.SettlingLanes.{waits_of}
use Rattle.ldom_world.proofs.world.World.waits.Goals as goal

pub returns-in-Disk : goal.returns-in-Disk
returns-in-Disk g c =
    waits_of c.args.self.now c.args.lane.number c.waits.result c.args.lane.kind kinds.Disk c.in-Disk.is c.waits.ensures

pub returns-in-Port : goal.returns-in-Port
returns-in-Port g c =
    waits_of c.args.self.now c.args.lane.number c.waits-in-Port.result c.args.lane.kind kinds.Port c.in-Port.is
    c.waits-in-Port.ensures
