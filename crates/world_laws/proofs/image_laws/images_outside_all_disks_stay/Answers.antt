use Rattle.world_laws.proofs.BehindDisks.{stays_behind}
use Rattle.world_laws.proofs.image_laws.images_outside_all_disks_stay.Goals as goal

pub returns : goal.returns
returns c = stays_behind
