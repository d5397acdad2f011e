use Rattle.ldom_world.proofs.SettlingLanes.{disk_waits}
use Rattle.ldom_world.proofs.kinds.disks.waits.Goals as goal

pub returns : goal.returns
returns g c =
    disk_waits c.world.inside.disks c.world.inside.ports c.args.world.now c.world.view_is c.args.disk c.waits.result c.waits.ensures
