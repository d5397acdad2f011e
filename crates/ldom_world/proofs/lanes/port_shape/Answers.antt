use Rattle.std.proofs.Common.{ℕ, ◌<◌, List, subst}
use Rattle.std.specs.List.{AllByRecursion}
use Rattle.ldom_world.proofs.DeclaringPorts.{net_shape}
use Rattle.ldom_world.proofs.lanes.port_shape.Goals as goal

pub returns-clause-sound : goal.returns-clause-sound
returns-clause-sound c =
    net_shape c.args.port.now c.requires
    (subst (λ (l : List ℕ). AllByRecursion (λ (byte : ℕ). byte < 256) l) c.read_address.ensures.same
    c.read_address.ensures.bytes)
