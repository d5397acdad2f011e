use Rattle.world_laws.proofs.BehindDisks.{world_around}
use Rattle.world_laws.proofs.LaneStores.{moves_around}
use Rattle.world_laws.proofs.image_laws.stores_stay_within_their_disks.Goals as goal

pub returns : goal.returns
returns c = record { lane = moves_around; world = world_around }
