use Rattle.ldom_world.proofs.SettlingLanes.{port_waits}
use Rattle.ldom_world.proofs.kinds.ports.waits.Goals as goal

pub returns : goal.returns
returns g c =
    port_waits c.world.inside.disks c.world.inside.ports c.args.world.now c.world.view_is c.args.port c.waits.result c.waits.ensures
