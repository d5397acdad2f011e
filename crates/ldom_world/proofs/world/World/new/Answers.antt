use Rattle.std.proofs.Common.{ap}
use Rattle.recorded_lanes.specs.world_parts.domain_laws.Domain.{Lanes}
use Rattle.ldom_world.proofs.Declaring.{all_within}
use Rattle.ldom_world.proofs.world.World.new.Goals as goal

pub over-requires-clause-image : goal.over-requires-clause-image
over-requires-clause-image g c =
    all_within (g.D.Store.size c.args.image) c.args.names.now.disks c.in-Ok.lanes.first c.requires.image
    (ap (λ (l : Lanes). l.first) c.in-Ok.ensures.lanes)
